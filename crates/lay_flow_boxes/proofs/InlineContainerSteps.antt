-- Which boxes hold boxes of a level, from the front of a context on.
use Rattle.std.proofs.Common.{◌≡◌, ◌≢◌, ℕ, zero, suc, [], ◌∷◌, ◌++◌, ◌+◌, ◌<◌, ◌==◌, ◌&&◌, ◌||◌, Bool, true, false, List, length, replicate, slice_set, nat_lt, refl, sym, ◌∙◌, arith, inl, inr, add-one}
use Rattle.std.proofs.lemmas.Bool.{cases_eq, cases_lt, eq-eqb, ne_eqb}
use Rattle.std.proofs.lemmas.Bool.Decides.{nat_tests}
use Rattle.std.proofs.lemmas.Grind.{elements}
use Rattle.lay_box_tree.specs.declared.box_tree.BoxNode.{BoxNode}
use Rattle.lay_flow.specs.Blocks.Children.{flag_at}
use Rattle.lay_flow_boxes.proofs.Cited.{flags_at}
use Rattle.lay_flow_boxes.specs.declared.inline_containers.Level.{Level}
use Rattle.lay_box_tree.specs.Containing.{container_of}
use Rattle.lay_flow_boxes.specs.InlineContainers.{holds, is_of}

-- these say it of the boxes before n
pub record HoldersTo (level : Level) (boxes : List BoxNode) (flags : List Bool) (n : ℕ) : Type 0 where
  pub count : length flags ≡ length boxes
  pub each : (c : ℕ) → c < length boxes → flag_at flags c ≡ holds level boxes c n

none_read : (k : ℕ) → flag_at [] k ≡ false
none_read zero = refl
none_read (suc k) = refl

pub none_count : (n : ℕ) → length (replicate n false) ≡ n
none_count n = grind (arith, elements)

-- none stands in any before the first one
pub none : (level : Level) (boxes : List BoxNode) → HoldersTo level boxes (replicate (length boxes) false) 1
none level boxes = record { count = none_count (length boxes); each = λ c lt. flags_at (length boxes) c }

pub set_here : (flags : List Bool) (k : ℕ) → k < length flags → flag_at (slice_set flags k true) k ≡ true
set_here flags k lt = grind (arith, elements, lt)

pub set_other : (flags : List Bool) (k j : ℕ) → k ≢ j → flag_at (slice_set flags k true) j ≡ flag_at flags j
set_other flags k j other = grind (arith, elements, other)

pub set_count : (flags : List Bool) (k : ℕ) → length (slice_set flags k true) ≡ length flags
set_count flags k = grind (arith, elements)

pub no_more : (h a b c : Bool) → c ≡ false → (h || (a && b && c)) ≡ h
no_more true a b c e = refl
no_more false true true c e = e
no_more false true false c e = refl
no_more false false b c e = refl

pub other_more : (h a b c : Bool) → b ≡ false → (h || (a && b && c)) ≡ h
other_more true a b c e = refl
other_more false true true c e = absurd cc
other_more false true false c e = refl
other_more false false b c e = refl

pub one_here : (h a b c : Bool) → a ≡ true → b ≡ true → c ≡ true → (h || (a && b && c)) ≡ true
one_here true a b c p q r = refl
one_here false true true c p q r = r
one_here false true false c p q r = absurd cc
one_here false false b c p q r = absurd cc

-- with a box that isn't of this level
pub none_more : (level : Level) (boxes : List BoxNode) (flags : List Bool) (n : ℕ) → HoldersTo level boxes flags n → is_of level boxes n ≡ false → HoldersTo level boxes flags (n + 1)
none_more level boxes flags n so_far is = record {
  count = so_far.count;
  each = λ c lt. so_far.each c lt ∙ rw (add-one n) (sym (no_more (holds level boxes c n) (nat_lt 0 n) (container_of boxes n == c) (is_of level boxes n) is));
}

pub positive_lt : (k : ℕ) → 0 < k → nat_lt 0 k ≡ true
positive_lt k positive = grind (arith, nat_tests, positive)

pub same_eq : (k : ℕ) → (k == k) ≡ true
same_eq k = eq-eqb k k refl

pub other_eq : (j k : ℕ) → j ≢ k → (j == k) ≡ false
other_eq j k other = ne_eqb j k other

here_more : (level : Level) (boxes : List BoxNode) (flags : List Bool) (n c : ℕ) → container_of boxes n ≡ c → HoldersTo level boxes flags n → 0 < n → c < length boxes → is_of level boxes n ≡ true
    → flag_at (slice_set flags c true) c ≡ holds level boxes c (n + 1)
here_more level boxes flags n c here so_far positive within is =
    let set = set_here flags c (omega (arith, within, so_far.count)) in
    let same : (container_of boxes n == c) ≡ true = rw here (same_eq c) in
    set ∙ sym (rw (add-one n) (one_here (holds level boxes c n) (nat_lt 0 n) (container_of boxes n == c) (is_of level boxes n) (positive_lt n positive) same is))

-- with one that is
pub one_more : (level : Level) (boxes : List BoxNode) (flags : List Bool) (n : ℕ) → HoldersTo level boxes flags n → 0 < n → container_of boxes n < length boxes → is_of level boxes n ≡ true
    → HoldersTo level boxes (slice_set flags (container_of boxes n) true) (n + 1)
one_more level boxes flags n so_far positive within is = record {
  count = set_count flags (container_of boxes n) ∙ so_far.count;
  each = λ c lt. elim (cases_eq (container_of boxes n) c) [
    | inl here ↦ rw here (here_more level boxes flags n c here so_far positive lt is)
    | inr other ↦ rw (add-one n) (set_other flags (container_of boxes n) c other ∙ so_far.each c lt
        ∙ sym (other_more (holds level boxes c n) (nat_lt 0 n) (container_of boxes n == c) (is_of level boxes n) (other_eq (container_of boxes n) c other)))
  ];
}

read_before : (flags : List Bool) (b : Bool) (k : ℕ) → k < length flags → flag_at (flags ++ b ∷ []) k ≡ flag_at flags k
read_before flags b k lt = grind (arith, elements)

read_last : (flags : List Bool) (b : Bool) (k : ℕ) → k ≡ length flags → flag_at (flags ++ b ∷ []) k ≡ b
read_last flags b k is = grind (arith, elements)

-- a column of flags with one more
pub one_flag : (of : ℕ → Bool) (flags : List Bool) (n : ℕ) (b : Bool) → length flags ≡ n → ((k : ℕ) → k < n → flag_at flags k ≡ of k) → b ≡ of n → (k : ℕ) → k < n + 1 → flag_at (flags ++ b ∷ []) k ≡ of k
one_flag of flags n b counted so_far is k lt = elim (cases_lt k n) [
  | inl low ↦ read_before flags b k (omega (arith, counted)) ∙ so_far k low
  | inr high ↦ (let q : k ≡ n = omega arith in read_last flags b k (q ∙ sym counted) ∙ rw q is)
]
