-- How many pieces are of a kind and a node, with one more.
use Rattle.std.proofs.Common.{◌≡◌, ◌∙◌, ◌≢◌, ℕ, zero, suc, take, drop, ap, ◌+◌, ◌<◌, ◌≤◌, ◌==◌, ◌&&◌, List, [], ◌∷◌, ◌++◌, length, length-append, refl, sym, arith, inl, inr, Bool, true, false, if◌then◌else◌}
use Rattle.std.proofs.lemmas.Bool.{cases_eq, eq-eqb, ne_eqb, and_right}
use Rattle.lay_frag.specs.declared.frag.Frag.{Frag}
use Rattle.lay_frag.specs.declared.frag.FragKind.{FragKind}
use Rattle.lay_frag.specs.declared.frag.FragKind.TheVariants.{Box, Line, Text}
use Rattle.lay_placements.specs.declared.piece_list.TheConstants.{FIRST_PIECES}
use Rattle.lay_placements.specs.declared.node_counts.Counts.{Counts}
use Rattle.lay_placements.specs.declared.node_counts.NodeCounts.{NodeCounts}
use Rattle.lay_placements.specs.PieceCounts.{AreCounted, behind_first, count_in, counts_of, first_of, with_one}
use Rattle.lay_placements.specs.PieceParts.{count_of, is_kind, numbered}

pub count_more : (kind : FragKind) (id : ℕ) (fs : List Frag) (f : Frag) → count_of kind id (fs ++ f ∷ []) ≡ count_of kind id fs + (if is_kind f.kind kind && f.node.0 == id then 1 else 0)
count_more kind id [] f = omega arith
count_more kind id (x ∷ xs) f = let h = count_more kind id xs f in omega (arith, h)

counted_by : (b : Bool) → (if b then 1 else 0) ≤ 1
counted_by true = omega arith
counted_by false = omega arith

pub count_few : (kind : FragKind) (id : ℕ) (fs : List Frag) → count_of kind id fs ≤ length fs
count_few kind id [] = omega arith
count_few kind id (f ∷ fs) = let h = count_few kind id fs in let b = counted_by (is_kind f.kind kind && f.node.0 == id) in omega (arith, h, b)

-- with one more of a kind
more_in : (counts : Counts) (kind other : FragKind) → count_in (with_one counts kind) other ≡ count_in counts other + (if is_kind kind other then 1 else 0)
more_in counts Box Box = refl
more_in counts Box Line = omega arith
more_in counts Box Text = omega arith
more_in counts Line Box = omega arith
more_in counts Line Line = refl
more_in counts Line Text = omega arith
more_in counts Text Box = omega arith
more_in counts Text Line = omega arith
more_in counts Text Text = refl

same_eq : (k : ℕ) → (k == k) ≡ true
same_eq k = eq-eqb k k refl

other_eq : (j k : ℕ) → j ≢ k → (j == k) ≡ false
other_eq j k other = ne_eqb j k other

both_true : (a b : Bool) → b ≡ true → (a && b) ≡ a
both_true true b e = e
both_true false b e = refl

-- the first of some pieces and those behind them
pub count_both : (kind : FragKind) (id n : ℕ) (fs : List Frag) → count_of kind id (take n fs) + count_of kind id (drop n fs) ≡ count_of kind id fs
count_both kind id zero fs = omega arith
count_both kind id (suc n) [] = omega arith
count_both kind id (suc n) (f ∷ fs) = let h = count_both kind id n fs in omega (arith, h)

pub count_behind : (kind : FragKind) (id n : ℕ) (fs : List Frag) → count_of kind id (drop n fs) ≤ length fs
count_behind kind id n fs = let both = count_both kind id n fs in let all = count_few kind id fs in omega (arith, both, all)

none_before : (n : ℕ) (fs : List Frag) → length fs < n → drop n fs ≡ []
none_before zero fs lt = absurd (omega (arith, lt))
none_before (suc n) [] lt = refl
none_before (suc n) (g ∷ gs) lt = none_before n gs (omega (arith, lt))

none_behind : (n : ℕ) (fs : List Frag) (f : Frag) → length fs < n → drop n (fs ++ f ∷ []) ≡ []
none_behind zero fs f lt = absurd (omega (arith, lt))
none_behind (suc zero) [] f lt = refl
none_behind (suc (suc n)) [] f lt = refl
none_behind (suc n) (g ∷ gs) f lt = none_behind n gs f (omega (arith, lt))

one_behind : (n : ℕ) (fs : List Frag) (f : Frag) → n ≤ length fs → drop n (fs ++ f ∷ []) ≡ drop n fs ++ f ∷ []
one_behind zero fs f le = refl
one_behind (suc n) [] f le = absurd (omega (arith, le))
one_behind (suc n) (g ∷ gs) f le = one_behind n gs f (omega (arith, le))

-- few pieces are the first
pub all_first : (kind : FragKind) (id : ℕ) (fs : List Frag) → length fs < FIRST_PIECES → count_of kind id (first_of fs) ≡ count_of kind id fs
all_first kind id fs few =
    let both = count_both kind id FIRST_PIECES fs in
    let none : count_of kind id (behind_first fs) ≡ 0 = ap (count_of kind id) (none_before FIRST_PIECES fs few) in
    omega (arith, both, none)

-- a piece among the first isn't counted
pub one_first : (fs : List Frag) (f : Frag) (map : NodeCounts) → AreCounted fs map → length fs < FIRST_PIECES → AreCounted (fs ++ f ∷ []) map
one_first fs f map so_far few = record {
  each = λ kind id. let was = so_far.each kind id in let old : behind_first fs ≡ [] = none_before FIRST_PIECES fs few in
      let new : behind_first (fs ++ f ∷ []) ≡ [] = none_behind FIRST_PIECES fs f few in rw new (was ∙ ap (count_of kind id) old);
  few = omega (arith, few, length-append fs (f ∷ []));
}

-- a map that says the same counts the same pieces
pub same_counts : (fs : List Frag) (map next : NodeCounts) → AreCounted fs map → ((id : ℕ) → counts_of next id ≡ counts_of map id) → AreCounted fs next
same_counts fs map next so_far same = record {
  each = λ kind id. ap (λ counts. count_in counts kind) (same id) ∙ so_far.each kind id;
  few = so_far.few;
}

-- a map in which the counts of a piece's node have one more of its kind counts it too
pub one_more : (fs : List Frag) (f : Frag) (map next : NodeCounts) → AreCounted fs map → FIRST_PIECES ≤ length fs → length fs < 2147483648
    → counts_of next f.node.0 ≡ with_one (counts_of map f.node.0) f.kind → ((id : ℕ) → id ≢ f.node.0 → counts_of next id ≡ counts_of map id)
    → AreCounted (fs ++ numbered fs f ∷ []) next
one_more fs f map next so_far many room here others = record {
  each = λ kind id. elim (cases_eq id f.node.0) [
    | inl same ↦ (let is : (f.node.0 == id) ≡ true = rw same (same_eq f.node.0) in
        let more = count_more kind id (behind_first fs) (numbered fs f) in
        let all : behind_first (fs ++ numbered fs f ∷ []) ≡ behind_first fs ++ numbered fs f ∷ [] = one_behind FIRST_PIECES fs (numbered fs f) many in
        let one = more_in (counts_of map f.node.0) f.kind kind in
        let was = so_far.each kind f.node.0 in
        let both = both_true (is_kind f.kind kind) (f.node.0 == id) is in
        rw (all, more, both, same, here) (rw (one, was) refl))
    | inr other ↦ (let is : (f.node.0 == id) ≡ false = other_eq f.node.0 id (λ e. other (sym e)) in
        let more = count_more kind id (behind_first fs) (numbered fs f) in
        let all : behind_first (fs ++ numbered fs f ∷ []) ≡ behind_first fs ++ numbered fs f ∷ [] = one_behind FIRST_PIECES fs (numbered fs f) many in
        let both = and_right (is_kind f.kind kind) (f.node.0 == id) is in
        let kept = others id other in
        let was = so_far.each kind id in
        rw (all, more, both, kept) (omega (arith, was)))
  ];
  few = omega (arith, room, length-append fs (numbered fs f ∷ []));
}
