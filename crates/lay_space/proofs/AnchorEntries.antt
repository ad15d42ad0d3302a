-- Anchors stand behind texts that have ended, and each break behind a cluster or an atomic.
use Rattle.std.proofs.Common.{◌≡◌, ℕ, ◌++◌, Bool, true, false, cond, if◌then◌else◌, ◌||◌, List, [], ◌∷◌, Some, None, refl, sym, ap, ◌∙◌, subst, append-nil}
use Rattle.std.proofs.lemmas.Bool.{true≢false, or_right}
use Rattle.std.proofs.Math.Bool.{or-false}
use Rattle.lay_space.specs.declared.tokens.Token.{Token}
use Rattle.lay_space.specs.declared.tokens.Token.TheVariants as token
use Rattle.lay_space.specs.declared.breaks.Entry.{Entry}
use Rattle.lay_space.specs.declared.breaks.Entry.TheVariants.{Content, Break}
use Rattle.lay_space.specs.Breaks.{broken, settled, entries_of}
use Rattle.lay_space.specs.BreakPlaces.{is_cluster_or_atomic, wrapped_atomic_is_next, may_break_behind, must_break_behind, break_behind, with_breaks}
use Rattle.lay_space.specs.Laws.{content_of}
use Rattle.lay_space.proofs.KeptContent.{content_broken}
use Rattle.lay_space.proofs.BreakPlaces.{marks, behinds, lines_break_where_they_may_lem}
use Rattle.lay_space.proofs.AnchorBreaks.{TextsEnd}
use Rattle.lay_space.proofs.AnchorTokens.{shut}

-- no anchor stands right behind a cluster (`inside`)
abbrev pub Closed : Bool → List Entry → Type 0
Closed inside [] = Unit {0}
Closed inside (Break g ∷ es) = Closed false es
Closed inside (Content (token.Cluster c) ∷ es) = Closed true es
Closed inside (Content token.TextEnd ∷ es) = Closed false es
Closed inside (Content (token.Atomic n m) ∷ es) = Closed false es
Closed inside (Content (token.Start n takes) ∷ es) = Closed false es
Closed inside (Content (token.End n) ∷ es) = Closed false es
Closed inside (Content (token.Float n) ∷ es) = Closed false es
Closed inside (Content (token.Anchor n) ∷ es) = (inside ≡ false) × Closed false es

-- no cluster and no break is among what waits
abbrev pub Waiting : List Entry → Type 0
Waiting [] = Unit {0}
Waiting (Break g ∷ es) = ⊥
Waiting (Content (token.Cluster c) ∷ es) = ⊥
Waiting (Content token.TextEnd ∷ es) = Waiting es
Waiting (Content (token.Atomic n m) ∷ es) = Waiting es
Waiting (Content (token.Start n takes) ∷ es) = Waiting es
Waiting (Content (token.End n) ∷ es) = Waiting es
Waiting (Content (token.Float n) ∷ es) = Waiting es
Waiting (Content (token.Anchor n) ∷ es) = Waiting es

closed_waiting : (held rest : List Entry) → Waiting held → Closed false rest → Closed false (held ++ rest)
closed_waiting [] rest w is = is
closed_waiting (Break g ∷ es) rest w is = absurd w
closed_waiting (Content (token.Cluster c) ∷ es) rest w is = absurd w
closed_waiting (Content token.TextEnd ∷ es) rest w is = closed_waiting es rest w is
closed_waiting (Content (token.Atomic n m) ∷ es) rest w is = closed_waiting es rest w is
closed_waiting (Content (token.Start n takes) ∷ es) rest w is = closed_waiting es rest w is
closed_waiting (Content (token.End n) ∷ es) rest w is = closed_waiting es rest w is
closed_waiting (Content (token.Float n) ∷ es) rest w is = closed_waiting es rest w is
closed_waiting (Content (token.Anchor n) ∷ es) rest w is = (refl, closed_waiting es rest w is)

waiting_more : (held more : List Entry) → Waiting held → Waiting more → Waiting (held ++ more)
waiting_more [] more w is = is
waiting_more (Break g ∷ es) more w is = absurd w
waiting_more (Content (token.Cluster c) ∷ es) more w is = absurd w
waiting_more (Content token.TextEnd ∷ es) more w is = waiting_more es more w is
waiting_more (Content (token.Atomic n m) ∷ es) more w is = waiting_more es more w is
waiting_more (Content (token.Start n takes) ∷ es) more w is = waiting_more es more w is
waiting_more (Content (token.End n) ∷ es) more w is = waiting_more es more w is
waiting_more (Content (token.Float n) ∷ es) more w is = waiting_more es more w is
waiting_more (Content (token.Anchor n) ∷ es) more w is = waiting_more es more w is

-- what settles is closed: without a break to go back behind, right behind one that follows a cluster, and behind another
pub record SettledClosed (es : List Entry) : Type 0 where
  pub none : (inside : Bool) → TextsEnd inside (content_of es) → Closed inside (settled None false [] es)
  pub fresh : (g : Bool) → TextsEnd true (content_of es) → Closed true (settled (Some g) false [] es)
  pub some : (g started : Bool) (held : List Entry) → Waiting held → TextsEnd false (content_of es) → Closed false (settled (Some g) started held es)

behind_break : (b inside : Bool) (es : List Entry) → SettledClosed es → TextsEnd inside (content_of es) → Closed inside (settled (Some b) false [] es)
behind_break b true es rest is = rest.fresh b is
behind_break b false es rest is = rest.some b false [] tt is

abbrev pub OneClosed : Token → List Entry → Type 0
OneClosed x es = (g started : Bool) (held : List Entry) → Waiting held → TextsEnd false (content_of es) → Closed false (settled (Some g) started held (Content x ∷ es))

text_end_closed : (es : List Entry) → SettledClosed es → OneClosed token.TextEnd es
text_end_closed es rest g true held w is = rest.some g true (held ++ Content token.TextEnd ∷ []) (waiting_more held (Content token.TextEnd ∷ []) w tt) is
text_end_closed es rest g false held w is = rest.some g false held w is

end_closed : (n : ℕ) (es : List Entry) → SettledClosed es → OneClosed (token.End n) es
end_closed n es rest g true held w is = rest.some g true (held ++ Content (token.End n) ∷ []) (waiting_more held (Content (token.End n) ∷ []) w tt) is
end_closed n es rest g false held w is = rest.some g false held w is

start_closed : (n : ℕ) (takes : Bool) (es : List Entry) → SettledClosed es → OneClosed (token.Start n takes) es
start_closed n true es rest g started held w is = closed_waiting held _ w (rest.none false is)
start_closed n false es rest g started held w is =
    rest.some g (started || true) (held ++ Content (token.Start n false) ∷ []) (waiting_more held (Content (token.Start n false) ∷ []) w tt) is

float_closed : (n : ℕ) (es : List Entry) → SettledClosed es → OneClosed (token.Float n) es
float_closed n es rest true started held w is =
    rest.some true (started || false) (held ++ Content (token.Float n) ∷ []) (waiting_more held (Content (token.Float n) ∷ []) w tt) is
float_closed n es rest false started held w is = rest.some false started held w is

anchor_closed : (n : ℕ) (es : List Entry) → SettledClosed es → OneClosed (token.Anchor n) es
anchor_closed n es rest true started held w is =
    rest.some true (started || false) (held ++ Content (token.Anchor n) ∷ []) (waiting_more held (Content (token.Anchor n) ∷ []) w tt) is
anchor_closed n es rest false started held w is = (refl, rest.some false started held w is)

settled_closed : (es : List Entry) → SettledClosed es
settled_closed [] = record {
  none = λ inside is. tt;
  fresh = λ g is. tt;
  some = λ g started held w is. subst (Closed false) (append-nil held) (closed_waiting held [] w tt);
}
settled_closed (Break b ∷ es) =
    let rest = settled_closed es in
    record {
      none = λ inside is. behind_break b inside es rest is;
      fresh = λ g is. rest.some b false [] tt (shut false (content_of es) is);
      some = λ g started held w is. closed_waiting held _ w (rest.some b false [] tt is);
    }
settled_closed (Content (token.Cluster c) ∷ es) =
    let rest = settled_closed es in
    record {
      none = λ inside is. rest.none true is;
      fresh = λ g is. rest.none true is;
      some = λ g started held w is. closed_waiting held _ w (rest.none true is);
    }
settled_closed (Content token.TextEnd ∷ es) =
    let rest = settled_closed es in
    record {
      none = λ inside is. rest.none false is;
      fresh = λ g is. rest.some g false [] tt is;
      some = text_end_closed es rest;
    }
settled_closed (Content (token.Atomic n m) ∷ es) =
    let rest = settled_closed es in
    record {
      none = λ inside is. rest.none false is.1;
      fresh = λ g is. absurd (true≢false is.0);
      some = λ g started held w is. closed_waiting held _ w (rest.none false is.1);
    }
settled_closed (Content (token.Start n takes) ∷ es) =
    let rest = settled_closed es in
    record {
      none = λ inside is. rest.none false is.1;
      fresh = λ g is. absurd (true≢false is.0);
      some = λ g started held w is. start_closed n takes es rest g started held w is.1;
    }
settled_closed (Content (token.End n) ∷ es) =
    let rest = settled_closed es in
    record {
      none = λ inside is. rest.none false is.1;
      fresh = λ g is. absurd (true≢false is.0);
      some = λ g started held w is. end_closed n es rest g started held w is.1;
    }
settled_closed (Content (token.Float n) ∷ es) =
    let rest = settled_closed es in
    record {
      none = λ inside is. rest.none false is.1;
      fresh = λ g is. absurd (true≢false is.0);
      some = λ g started held w is. float_closed n es rest g started held w is.1;
    }
settled_closed (Content (token.Anchor n) ∷ es) =
    let rest = settled_closed es in
    record {
      none = λ inside is. (is.0, rest.none false is.1);
      fresh = λ g is. absurd (true≢false is.0);
      some = λ g started held w is. anchor_closed n es rest g started held w is.1;
    }

pub entries_closed : (xs : List Token) → TextsEnd false xs → Closed false (entries_of xs)
entries_closed xs is = (settled_closed (broken false xs)).none false (subst (TextsEnd false) (sym (content_broken false xs)) is)

-- A cluster or an atomic stands before each break since the last one, and before the first (`solid`).
abbrev pub Full : Bool → List Entry → Type 0
Full solid [] = Unit {0}
Full solid (Break g ∷ es) = (solid ≡ true) × Full false es
Full solid (Content x ∷ es) = Full (solid || is_cluster_or_atomic x) es

full_one : (solid b : Bool) (x : Token) (es : List Entry) → is_cluster_or_atomic x ≡ b → ((s : Bool) → Full s (marks es) → Full s es)
    → Full solid (cond b (Content x ∷ marks es) (marks es)) → Full (solid || b) es
full_one solid true x es e rest is = rest (solid || true) (subst (λ a. Full (solid || a) (marks es)) e is)
full_one solid false x es e rest is = rest (solid || false) (subst (λ a. Full a (marks es)) (sym (or-false solid)) is)

full_marks : (es : List Entry) (solid : Bool) → Full solid (marks es) → Full solid es
full_marks [] solid is = is
full_marks (Break g ∷ es) solid is = (is.0, full_marks es false is.1)
full_marks (Content x ∷ es) solid is = full_one solid (is_cluster_or_atomic x) x es refl (full_marks es) is

full_break : (solid must may : Bool) (es : List Entry) → solid ≡ true → ((s : Bool) → Full s es)
    → Full solid ((if must then Break true ∷ [] else (if may then Break false ∷ [] else [])) ++ es)
full_break solid true may es on rest = (on, rest false)
full_break solid false true es on rest = (on, rest false)
full_break solid false false es on rest = rest solid

full_with_one : (b : Bool) (x : Token) (xs : List Token) (solid : Bool) → is_cluster_or_atomic x ≡ b → ((s : Bool) → Full s (with_breaks xs))
    → Full solid (if b then Content x ∷ break_behind x xs ++ with_breaks xs else with_breaks xs)
full_with_one true x xs solid e rest =
    full_break (solid || is_cluster_or_atomic x) (must_break_behind x) (may_break_behind x xs || wrapped_atomic_is_next xs) (with_breaks xs) (ap (λ b. solid || b) e ∙ or_right solid true refl) rest
full_with_one false x xs solid e rest = rest solid

full_with : (xs : List Token) (solid : Bool) → Full solid (with_breaks xs)
full_with [] solid = tt
full_with (x ∷ xs) solid = full_with_one (is_cluster_or_atomic x) x xs solid refl (full_with xs)

pub broken_full : (xs : List Token) → Full false (broken false xs)
broken_full xs = full_marks (broken false xs) false (subst (Full false) (sym (behinds xs).empty) (full_with xs false))

pub entries_full : (xs : List Token) → Full false (entries_of xs)
entries_full xs = full_marks (entries_of xs) false (subst (Full false) (sym (lines_break_where_they_may_lem xs)) (full_with xs false))
