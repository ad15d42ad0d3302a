-- A tree of contexts that grows.
use Rattle.std.proofs.Common.{◌≡◌, ℕ, ◌+◌, ◌^◌, ◌<◌, true, false, List, [], ◌∷◌, ◌++◌, length, refl, sym, add-one, ap, arith, inl, inr, subst, Some, slice_get, IfSome, length-append}
use Rattle.std.proofs.lemmas.Bool.{cases_lt}
use Rattle.std.proofs.lemmas.List.{append-nil}
use Rattle.std.proofs.lemmas.Grind.{elements}
use Rattle.lay_frag.specs.Pieces.{Context as PageContext, frags_of, page_pieces, IsContextInRange, IsTreeInRange}
use Rattle.lay_context.proofs.Cited.{length-page_pieces}
use Rattle.lay_contexts.specs.FormattingContexts.{FormattingContext, formatting_context_at}
use Rattle.lay_placements.specs.declared.corner.Corner.{Corner}
use Rattle.lay_context.specs.Workings.{Workings}
use Rattle.lay_context.specs.Solves.{page_context, page_contexts}

-- the tree is this one, its contexts are in range, and they have so many pieces, fewer than 2^32
pub record TreeTo (listed tree : List PageContext) (pieces : ℕ) : Type 0 where
  pub is : tree ≡ listed
  pub range : (i : ℕ) → i < length tree → IfSome (slice_get tree i) IsContextInRange
  pub total : length (frags_of tree) ≡ pieces
  pub few : pieces < 2 ^ 32

read_before : (cs : List PageContext) (c : PageContext) (k : ℕ) → k < length cs → slice_get (cs ++ c ∷ []) k ≡ slice_get cs k
read_before cs c k lt = grind (arith, elements)

read_last : (cs : List PageContext) (c : PageContext) (k : ℕ) → k ≡ length cs → slice_get (cs ++ c ∷ []) k ≡ Some c
read_last cs c k is = grind (arith, elements)

frags-append : (cs : List PageContext) (c : PageContext) → length (frags_of (cs ++ c ∷ [])) ≡ length (frags_of cs) + length c.pieces
frags-append [] c = omega (arith, length-page_pieces c, length-append (page_pieces c) [])
frags-append (x ∷ xs) c =
    let rest = frags-append xs c in
    omega (arith, rest, length-append (page_pieces x) (frags_of (xs ++ c ∷ [])), length-append (page_pieces x) (frags_of xs))

pub one_more : (listed cs : List PageContext) (pieces more : ℕ) (c : PageContext) → TreeTo listed cs pieces → IsContextInRange c → more ≡ pieces + length c.pieces → more < 2 ^ 32 → TreeTo (listed ++ c ∷ []) (cs ++ c ∷ []) more
one_more listed cs pieces more c so_far range sum few = record {
  is = ap (λ (t : List PageContext). t ++ c ∷ []) so_far.is;
  range = λ i lt. elim (cases_lt i (length cs)) [
    | inl low ↦ subst (λ o. IfSome o IsContextInRange) (sym (read_before cs c i low)) (so_far.range i low)
    | inr high ↦ (let counted = length-append cs (c ∷ []) in
        let q : i ≡ length cs = omega (arith, high, lt, counted) in subst (λ o. IfSome o IsContextInRange) (sym (read_last cs c i q)) range)
  ];
  total = omega (arith, so_far.total, frags-append cs c, sum);
  few = few;
}

-- an element's formatting context is listed, and an anonymous one isn't
pub list_next : (contexts : List FormattingContext) (w : Workings) (corners : List Corner) (i : ℕ) (tree : List PageContext) (pieces more : ℕ) (c : PageContext)
    → (formatting_context_at contexts i).anonymous ≡ false → c ≡ page_context contexts w corners i
    → TreeTo (page_contexts contexts w corners i) tree pieces → IsContextInRange c → more ≡ pieces + length c.pieces → more < 2 ^ 32
    → TreeTo (page_contexts contexts w corners (i + 1)) (tree ++ c ∷ []) more
list_next contexts w corners i tree pieces more c of_element is so_far range sum few =
    let next : page_contexts contexts w corners (i + 1) ≡ page_contexts contexts w corners i ++ c ∷ [] = rw (add-one i, of_element, is) refl in
    rw next (one_more (page_contexts contexts w corners i) tree pieces more c so_far range sum few)

pub skip_next : (contexts : List FormattingContext) (w : Workings) (corners : List Corner) (i : ℕ) (tree : List PageContext) (pieces : ℕ)
    → (formatting_context_at contexts i).anonymous ≡ true → TreeTo (page_contexts contexts w corners i) tree pieces
    → TreeTo (page_contexts contexts w corners (i + 1)) tree pieces
skip_next contexts w corners i tree pieces anonymous so_far =
    let next : page_contexts contexts w corners (i + 1) ≡ page_contexts contexts w corners i = rw (add-one i, anonymous) (append-nil (page_contexts contexts w corners i)) in
    rw next so_far

pub tree_in_range : (listed tree : List PageContext) (pieces : ℕ) → TreeTo listed tree pieces → IsTreeInRange tree
tree_in_range listed tree pieces so_far = record {
  contexts = so_far.range;
  few = let e = so_far.total in omega (arith, e, so_far.few);
}
