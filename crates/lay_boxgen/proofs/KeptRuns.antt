-- Runs of floats and anchors alone, which are left as they are.
use Rattle.std.proofs.Common.{◌≡◌, Bool, true, false, ◌||◌, ◌&&◌, not, List, [], ◌∷◌, ◌++◌, refl, ap, sym, ◌∙◌, filter, true≢false}
use Rattle.std.proofs.Math.Bool.{and-false}
use Rattle.std.specs.List.{list_any}
use Rattle.std.proofs.lemmas.Bool.{or_parts}
use Rattle.std.proofs.lemmas.List.{append_assoc, append-nil}
use Rattle.lay_boxgen.specs.Boxes.{Tree, facts_of}
use Rattle.lay_boxgen.specs.BrokenInlines.{is_block_box, is_no_text_box, is_unseen}
use Rattle.lay_boxgen.specs.Forms.{is_in_flow, is_inline_level, is_text, is_white}
use Rattle.lay_boxgen.specs.InlineRuns.{block_round, is_loose_box, is_no_block, is_seen_box}
use Rattle.lay_boxgen.specs.Runs.{gathered, gathered_from, is_some, is_white_box, run_over}
use Rattle.lay_boxgen.specs.declared.facts.Facts.{Facts}
use Rattle.lay_boxgen.specs.declared.facts.Form.{Form}
use Rattle.lay_boxgen.specs.declared.facts.Form.TheVariants.{Text}

-- a float or an anchor
abbrev IsFree : Tree → Type 0
IsFree t = (is_seen_box t ≡ false) × (is_no_text_box t ≡ true)

abbrev AreFree : List Tree → Type 0
AreFree [] = Unit
AreFree (t ∷ ts) = IsFree t × AreFree ts

none_seen : (run : List Tree) → AreFree run → list_any is_seen_box run ≡ false
none_seen [] h = refl
none_seen (t ∷ ts) h = ap (λ b. b || list_any is_seen_box ts) h.0.0 ∙ none_seen ts h.1

no_texts : (run : List Tree) → AreFree run → filter is_no_text_box run ≡ run
no_texts [] h = refl
no_texts (t ∷ ts) h = let step : filter is_no_text_box (t ∷ ts) ≡ t ∷ filter is_no_text_box ts = simp (h.0.1) refl in step ∙ ap (λ r. t ∷ r) (no_texts ts h.1)

white_level : (form : Form) (b : Bool) → (b && not (is_inline_level form)) ≡ true → is_white form ≡ false
white_level (Text t) true h = absurd (true≢false (sym h))
white_level (Text t) false h = absurd (true≢false (sym h))
white_level _ b h = refl

free_or : (b u t : Bool) → b ≡ false → (not b && (not u || t)) ≡ false → (not u ≡ false) × (not t ≡ true)
free_or true u t b h = absurd (true≢false b)
free_or false false t b h = absurd (true≢false h)
free_or false true true b h = absurd (true≢false h)
free_or false true false b h = (refl, refl)

module _ (f : Facts) where
  left : (run : List Tree) → AreFree run → block_round f run ≡ run
  left run h = (let step : block_round f run ≡ filter is_no_text_box run = simp (none_seen run h) refl in step) ∙ no_texts run h

  over : (run : List Tree) → AreFree run → run_over (block_round f) run [] ≡ run
  over [] h = refl
  over (t ∷ ts) h = ap (λ r. r ++ []) (left (t ∷ ts) h) ∙ append-nil (t ∷ ts)

  longer : (run : List Tree) (t : Tree) → AreFree run → IsFree t → AreFree (run ++ t ∷ [])
  longer [] t h k = (k, tt)
  longer (x ∷ xs) t h k = (h.0, longer xs t h.1 k)

  no_white : (t : Tree) → is_block_box t ≡ true → is_white_box t ≡ false
  no_white t h = white_level (facts_of t).form (is_in_flow (facts_of t).flow) h

  free : (t : Tree) → is_block_box t ≡ false → is_loose_box t ≡ false → IsFree t
  free t b h = free_or (is_block_box t) (is_unseen (facts_of t)) (is_text (facts_of t).form) b h

  one_more : (t : Tree) (ts : List Tree) → ((run : List Tree) → AreFree run → gathered_from is_no_block (block_round f) run [] ts ≡ run ++ ts)
      → (run : List Tree) → AreFree run → (b : Bool) → is_block_box t ≡ b → is_loose_box t ≡ false → gathered_from is_no_block (block_round f) run [] (t ∷ ts) ≡ run ++ t ∷ ts
  one_more t ts rest run h true b l =
      let w = no_white t b in
      let step : gathered_from is_no_block (block_round f) run [] (t ∷ ts) ≡ (run_over (block_round f) run [] ++ t ∷ []) ++ gathered_from is_no_block (block_round f) [] [] ts = simp (b, w, and-false (is_some run)) refl in
      step
      ∙ (ap (λ r. (r ++ t ∷ []) ++ gathered_from is_no_block (block_round f) [] [] ts) (over run h)
      ∙ (ap (λ r. (run ++ t ∷ []) ++ r) (rest [] tt)
      ∙ append_assoc run (t ∷ []) ts))
  one_more t ts rest run h false b l =
      let step : gathered_from is_no_block (block_round f) run [] (t ∷ ts) ≡ gathered_from is_no_block (block_round f) ((run ++ []) ++ t ∷ []) [] ts = simp b refl in
      step
      ∙ (ap (λ r. gathered_from is_no_block (block_round f) (r ++ t ∷ []) [] ts) (append-nil run)
      ∙ (rest (run ++ t ∷ []) (longer run t h (free t b l))
      ∙ append_assoc run (t ∷ []) ts))

  from : (ts : List Tree) → list_any is_loose_box ts ≡ false → (run : List Tree) → AreFree run → gathered_from is_no_block (block_round f) run [] ts ≡ run ++ ts
  from [] l run h = over run h ∙ sym (append-nil run)
  from (t ∷ ts) l run h =
      one_more t ts (from ts (or_parts (is_loose_box t) (list_any is_loose_box ts) l).1) run h (is_block_box t) refl (or_parts (is_loose_box t) (list_any is_loose_box ts) l).0

pub none_loose : (f : Facts) (ts : List Tree) → list_any is_loose_box ts ≡ false → gathered is_no_block (block_round f) ts ≡ ts
none_loose f ts l = from f ts l [] tt
