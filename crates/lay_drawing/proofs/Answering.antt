-- Answers to what was read.
use Rattle.std.proofs.Common.{◌≡◌, inl, inr, ℕ, List, codes, Bool, true, false, refl, sym, ap, ◌∙◌, subst, Option, Some, None, IfSome, Ok, Err, Result, IfOk}
use Rattle.lay_drawing.specs.declared.answer.Answer.{Answer}
use Rattle.lay_drawing.specs.declared.answer.Answer.TheVariants.{Picture, Refusal}
use Rattle.lay_drawing.specs.declared.answer.Lack.{Lack}
use Rattle.lay_drawing.specs.declared.state.Reading.{Reading}
use Rattle.lay_drawing.specs.declared.words.Wish.{Wish}
use Rattle.lay_drawing.specs.declared.hit.PieceName.{PieceName}
use Rattle.lay_drawing.specs.declared.words.Wish.TheVariants.{Tree, Between, Hit}
use Rattle.lay_drawing.specs.Reports.{IsBadLine, is_shown, ShowsPieces, ShowsNoTree}
use Rattle.lay_drawing.specs.States.{WasReport}
use Rattle.lay_drawing.specs.Input.{HasReport}
use Rattle.lay_drawing.specs.Answers.{AnswersBytes, AnswersReading, AnswersHit, AnswersBoth, IsRefusal, IsDrawingAnswer, bad_line, no_tree, refused}
use Rattle.lay_report.specs.Report.{numbered_line}

is_found : (o : Option ℕ) (a b : Bool) → a ≡ b → IfSome o (λ v. b ≡ true) → IfSome o (λ v. a ≡ true)
is_found None a b e found = tt
is_found (Some v) a b e found = e ∙ found

-- the report shows the tree of what was read, or it doesn't
shows_read : (bytes : List ℕ) (s : Reading) → WasReport s bytes → IfSome s.wanted (λ version. s.is_shown ≡ true) → ShowsPieces bytes s.wanted s.pieces.items
shows_read bytes s was shown = record {
  lines = was.lines;
  report = was.report;
  shown = is_found s.wanted (is_shown s.wanted was.lines) s.is_shown was.shown_is shown;
  pieces_are = sym was.pieces_are;
}

shows_none : (bytes : List ℕ) (s : Reading) (version : ℕ) → WasReport s bytes → s.wanted ≡ Some version → s.is_shown ≡ false → ShowsNoTree bytes version
shows_none bytes s version was wanted not_shown = record {
  lines = was.lines;
  report = was.report;
  not_shown = ap (λ (o : Option ℕ). is_shown o was.lines) (sym wanted) ∙ was.shown_is ∙ not_shown;
}

answers_one : (bytes : List ℕ) (s : Reading) (a : Answer) → WasReport s bytes → AnswersReading s a → AnswersBytes bytes (Tree s.wanted) a
answers_one bytes s (Picture text) was is = record {
  marked = _;
  shows = (s.pieces.items, shows_read bytes s was is.0, refl);
  text_is = is.1;
}
answers_one bytes s (Refusal line) was is = no_tree is.0 (is.1, shows_none bytes s is.0 was is.1 is.2) is.3

pub shown_answers : (left : Option (List ℕ)) (wanted : Option ℕ) (s : Reading) (r : Result Answer Lack) → s.wanted ≡ wanted → HasReport left s → IfOk r (AnswersReading s) → IfOk r (λ a. IfSome left (λ bytes. AnswersBytes bytes (Tree wanted) a))
shown_answers left wanted s (Err l) same has is = tt
shown_answers None wanted s (Ok a) same has is = tt
shown_answers (Some bytes) wanted s (Ok a) same has is = subst (λ (o : Option ℕ). AnswersBytes bytes (Tree o) a) same (answers_one bytes s a has is)

-- the last tree with a piece of it that is asked for
answers_hit : (bytes : List ℕ) (name : PieceName) (s : Reading) (a : Answer) → WasReport s bytes → s.wanted ≡ None → AnswersHit name s a → AnswersBytes bytes (Hit name) a
answers_hit bytes name s (Picture text) was last is = record {
  marked = _;
  shows = (
    s.pieces.items,
    subst (λ (o : Option ℕ). ShowsPieces bytes o s.pieces.items) last (shows_read bytes s was (subst (λ (o : Option ℕ). IfSome o (λ v. s.is_shown ≡ true)) (sym last) tt)),
    refl,
  );
  text_is = is;
}
answers_hit bytes name s (Refusal line) was last is = absurd is

pub hit_answers : (left : Option (List ℕ)) (name : PieceName) (s : Reading) (r : Result Answer Lack) → s.wanted ≡ None → HasReport left s → IfOk r (AnswersHit name s) → IfOk r (λ a. IfSome left (λ bytes. AnswersBytes bytes (Hit name) a))
hit_answers left name s (Err l) last has is = tt
hit_answers None name s (Ok a) last has is = tt
hit_answers (Some bytes) name s (Ok a) last has is = answers_hit bytes name s a has last is

-- the tree of a version that was shown
shows_at : (bytes : List ℕ) (s : Reading) (version : ℕ) → WasReport s bytes → s.wanted ≡ Some version → s.is_shown ≡ true → ShowsPieces bytes (Some version) s.pieces.items
shows_at bytes s version was wanted shown =
    subst (λ (o : Option ℕ). ShowsPieces bytes o s.pieces.items) wanted (shows_read bytes s was (subst (λ (o : Option ℕ). IfSome o (λ v. s.is_shown ≡ true)) (sym wanted) shown))

same_version : (a b : ℕ) (o : Option ℕ) → o ≡ Some a → o ≡ Some b → a ≡ b
same_version a b o is other = some_same a b (sym is ∙ other)
  where
    some_same : (a b : ℕ) → Some a ≡ Some b → a ≡ b
    some_same a b e = cc

answers_two : (bytes : List ℕ) (before after : ℕ) (s t : Reading) (a : Answer) → s.wanted ≡ Some before → t.wanted ≡ Some after → WasReport s bytes → WasReport t bytes → AnswersBoth s t a → AnswersBytes bytes (Between before after) a
answers_two bytes before after s t (Picture text) first second was_s was_t is = record {
  marked = _;
  shows = (s.pieces.items, t.pieces.items, shows_at bytes s before was_s first is.0, shows_at bytes t after was_t second is.1, refl);
  text_is = is.2;
}
answers_two bytes before after s t (Refusal line) first second was_s was_t (version, line_is, inl lacks) =
    let same = same_version version before s.wanted lacks.0 first in
    no_tree version (inl (same, shows_none bytes s before was_s first lacks.1)) line_is
answers_two bytes before after s t (Refusal line) first second was_s was_t (version, line_is, inr lacks) =
    let same = same_version version after t.wanted lacks.0 second in
    no_tree version (inr (same, (s.pieces.items, shows_at bytes s before was_s first lacks.1), shows_none bytes t after was_t second lacks.2)) line_is

pub both_answer : (left : Option (List ℕ)) (before after : ℕ) (s t : Reading) (r : Result Answer Lack) → s.wanted ≡ Some before → t.wanted ≡ Some after → HasReport left s → HasReport left t → IfOk r (AnswersBoth s t) → IfOk r (λ a. IfSome left (λ bytes. AnswersBytes bytes (Between before after) a))
both_answer left before after s t (Err l) first second has_s has_t is = tt
both_answer None before after s t (Ok a) first second has_s has_t is = tt
both_answer (Some bytes) before after s t (Ok a) first second has_s has_t is = answers_two bytes before after s t a first second has_s has_t is

pub bad_answers : (left : Option (List ℕ)) (wish : Wish) (number : ℕ) (r : Result Answer Lack) → IfSome left (λ all. IsBadLine all number)
    → IfOk r (λ a. a ≡ Refusal (numbered_line (codes "refused line ") number)) → IfOk r (λ a. IfSome left (λ bytes. AnswersBytes bytes wish a))
bad_answers left wish number (Err l) bad is = tt
bad_answers None wish number (Ok a) bad is = tt
bad_answers (Some bytes) wish number (Ok a) bad is = subst (λ (b : Answer). AnswersBytes bytes wish b) (sym is) (bad_line number bad refl)

pub refused_with : (left : Option (List ℕ)) (wish : Wish) (line : List ℕ) (Told : List ℕ → Type 0) → IfSome left (λ bytes. AnswersBytes bytes wish (Refusal line)) → Told line
    → IfSome left (λ bytes. (l : List ℕ) × IsRefusal bytes wish l × Told l)
refused_with None wish line Told is told = tt
refused_with (Some bytes) wish line Told is told = (line, is, told)

pub refused_front : (left : Option (List ℕ)) (wish : Wish) (line : List ℕ) (Told : List ℕ → Type 0) → IfSome left (λ bytes. AnswersBytes bytes wish (Refusal line)) → Told line
    → IfSome left (λ bytes. (l : List ℕ) × IsDrawingAnswer bytes wish l × Told l)
refused_front None wish line Told is told = tt
refused_front (Some bytes) wish line Told is told = (line, refused is, told)
