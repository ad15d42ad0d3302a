-- The text of a tree, context by context.
use Rattle.std.proofs.Common.{◌≡◌, ℕ, ◌+◌, ◌-◌, ◌<◌, ◌≤◌, List, [], ◌∷◌, ◌++◌, length, sym, ap, ◌∙◌, arith, nat_lt, slice_get, slice_index_or, Some, length-append, take, drop}
use Rattle.std.proofs.lemmas.List.{take_at, drop_at, get_or_append_left, get_or_push}
use Rattle.std.proofs.lemmas.Option.{slice_get_within}
use Rattle.lay_frag.specs.Pieces.{Context}
use Rattle.lay_frag.specs.Lines.{context_text, tree_text}
use Rattle.lay_report.specs.KeptText.{HasLines}
use Rattle.lay_report.proofs.Streams.{by_bool, flat_more, flat_split}

-- the lines of a context between its marks
pub record AreLinesAt (bytes : List ℕ) (from until : ℕ) (lines : List ℕ) : Type 0 where
  pub order : from ≤ until
  pub end : until ≤ length bytes
  pub same : take (until - from) (drop from bytes) ≡ lines

cut : (front lines behind bytes : List ℕ) (from until : ℕ) → bytes ≡ front ++ (lines ++ behind) → from ≡ length front → until ≡ length front + length lines → AreLinesAt bytes from until lines
cut front lines behind bytes from until is first last = record {
  order = omega arith;
  end = omega (arith, ap length is, length-append front (lines ++ behind), length-append lines behind);
  same = (let size : length lines ≡ until - from = omega arith in
      ap (λ bs. take (until - from) (drop from bs)) is ∙ (ap (take (until - from)) (drop_at front (lines ++ behind) from (sym first)) ∙ take_at lines behind (until - from) size));
}

pub lines_at : (tree : List Context) (bytes marks : List ℕ) (i a b : ℕ) (c : Context) → HasLines tree bytes marks → slice_get tree i ≡ Some c → a ≡ slice_index_or marks i a → b ≡ slice_index_or marks (i + 1) b → AreLinesAt bytes a b (context_text c)
lines_at tree bytes marks i a b c has is first last =
    let within = slice_get_within tree i c is in
    let from = first ∙ has.starts i a (omega (arith, within)) in
    let until = last ∙ (has.starts (i + 1) b (omega (arith, within)) ∙ (ap length (flat_more context_text tree i c is) ∙ length-append (tree_text (take i tree)) (context_text c))) in
    cut (tree_text (take i tree)) (context_text c) (tree_text (drop (i + 1) tree)) bytes a b (has.text ∙ sym (flat_split context_text tree i c is)) from until

-- one more mark
pub mark_more : (tree : List Context) (marks new : List ℕ) (i n : ℕ) → length marks ≡ i + 1 → new ≡ marks ++ n ∷ [] → n ≡ length (tree_text (take (i + 1) tree)) → ((k d : ℕ) → k ≤ i → slice_index_or marks k d ≡ length (tree_text (take k tree))) → (k d : ℕ) → k ≤ i + 1 → slice_index_or new k d ≡ length (tree_text (take k tree))
mark_more tree marks new i n long is here before k d le = ap (λ xs. slice_index_or xs k d) is ∙ by_bool (nat_lt k (i + 1))
    (λ e. let low : k < i + 1 = grind arith in get_or_append_left marks (n ∷ []) d k (omega (arith, low, long)) ∙ before k d (omega (arith, low)))
    (λ e. let high : i + 1 ≤ k = grind arith in let same : k ≡ i + 1 = omega (arith, high, le) in rw same (get_or_push marks n d (i + 1) long ∙ here))
