-- Which boxes hold one for which the content of lines is asked, from the front of a context on.
use Rattle.std.proofs.Common.{◌≡◌, ◌∙◌, ℕ, zero, suc, ◌+◌, ◌<◌, ◌≤◌, ◌||◌, Bool, true, false, List, [], ◌∷◌, Option, None, Some, IfSome, ap, arith, inl, inr, length, map, refl, replicate, slice_set, slice_index_or, sym}
use Rattle.std.specs.List.{list_any}
use Rattle.std.proofs.lemmas.Bool.{cases_eq, cases_lt}
use Rattle.lay_face.specs.FaceValue.{FaceValue}
use Rattle.lay_box_tree.specs.declared.box_tree.BoxNode.{BoxNode}
use Rattle.lay_flow.specs.Blocks.Children.{flag_at}
use Rattle.lay_flow_boxes.proofs.Cited.{flags_at}
use Rattle.lay_box_tree.specs.Containing.{container_of}
use Rattle.lay_line_items.specs.InlineContents.{AreContents, AreMarkedContents, KeptSegments, kept_at, kept_where}
use Rattle.lay_line_items.specs.InlineSegments.{segments_in}
use Rattle.lay_space.specs.declared.segment.Segment.{Segment}
use Rattle.lay_flow_boxes.specs.declared.asked_contents.Asked.{Asked}
use Rattle.lay_flow_boxes.specs.AskedContents.{AreAskedContents, AreHolders, HoldsAsked, is_any_asked, is_asked, is_asked_at}
use Rattle.lay_flow_boxes.proofs.InlineContainerSteps.{none_count, set_count, set_here, set_other}

-- these say it of the boxes before n
pub record HoldersTo (asked : Asked) (boxes : List BoxNode) (flags : List Bool) (n : ℕ) : Type 0 where
  pub count : length flags ≡ length boxes
  pub are : (c : ℕ) → flag_at flags c ≡ true → HoldsAsked asked boxes c
  pub all : (j : ℕ) → j < n → is_asked_at asked boxes j ≡ true → flag_at flags (container_of boxes j) ≡ true

-- a test of the elements of a list
module _ {X : Type 0} (f : X → Bool) where
  test_within : (xs : List X) (k : ℕ) → slice_index_or (map f xs) k false ≡ true → k < length xs
  test_within [] zero e = absurd cc
  test_within [] (suc k) e = absurd cc
  test_within (x ∷ xs) zero e = omega arith
  test_within (x ∷ xs) (suc k) e = (let lt = test_within xs k e in omega (arith, lt))

  or_true : (a b : Bool) → b ≡ true → (a || b) ≡ true
  or_true true b e = refl
  or_true false b e = e

  first_true : (a b : Bool) → a ≡ true → (a || b) ≡ true
  first_true true b e = refl
  first_true false b e = absurd cc

  test_any : (xs : List X) (k : ℕ) → slice_index_or (map f xs) k false ≡ true → list_any f xs ≡ true
  test_any [] zero e = absurd cc
  test_any [] (suc k) e = absurd cc
  test_any (x ∷ xs) zero e = first_true (f x) (list_any f xs) e
  test_any (x ∷ xs) (suc k) e = or_true (f x) (list_any f xs) (test_any xs k e)

  both_false : (a b : Bool) → a ≡ false → b ≡ false → (a || b) ≡ false
  both_false true b p q = p
  both_false false b p q = q

  no_test : (xs : List X) → ((k : ℕ) → k < length xs → slice_index_or (map f xs) k false ≡ false) → list_any f xs ≡ false
  no_test [] none = refl
  no_test (x ∷ xs) none = both_false (f x) (list_any f xs) (none 0 (omega arith)) (no_test xs (λ k lt. none (suc k) (omega (arith, lt))))

module _ (asked : Asked) (boxes : List BoxNode) where
  pub asked_any : (k : ℕ) → is_asked_at asked boxes k ≡ true → is_any_asked asked boxes ≡ true
  asked_any k e = test_any (is_asked asked) boxes k e

  pub none_any : ((k : ℕ) → k < length boxes → is_asked_at asked boxes k ≡ false) → is_any_asked asked boxes ≡ false
  none_any none = no_test (is_asked asked) boxes none

  pub none_held : HoldersTo asked boxes (replicate (length boxes) false) 0
  none_held = record { count = none_count (length boxes); are = λ c e. (let f = flags_at (length boxes) c in absurd cc); all = λ j lt e. absurd (omega (arith, lt)) }

  module _ (flags : List Bool) (n : ℕ) (so_far : HoldersTo asked boxes flags n) where
    pub none_more : is_asked_at asked boxes n ≡ false → HoldersTo asked boxes flags (n + 1)
    none_more is = record {
      count = so_far.count;
      are = so_far.are;
      all = λ j lt e. elim (cases_lt j n) [
        | inl low ↦ so_far.all j low e
        | inr high ↦ (let q : j ≡ n = omega (arith, lt) in let f = ap (is_asked_at asked boxes) q in absurd cc)
      ];
    }

    pub one_more : container_of boxes n < length boxes → is_asked_at asked boxes n ≡ true → HoldersTo asked boxes (slice_set flags (container_of boxes n) true) (n + 1)
    one_more within is =
        let set = set_here flags (container_of boxes n) (omega (arith, within, so_far.count)) in record {
          count = set_count flags (container_of boxes n) ∙ so_far.count;
          are = λ c e. elim (cases_eq (container_of boxes n) c) [
            | inl here ↦ record { place = n; is = is; container = here }
            | inr other ↦ so_far.are c (sym (set_other flags (container_of boxes n) c other) ∙ e)
          ];
          all = λ j lt e. elim (cases_eq (container_of boxes n) (container_of boxes j)) [
            | inl here ↦ rw (sym here) set
            | inr other ↦ set_other flags (container_of boxes n) (container_of boxes j) other ∙ elim (cases_lt j n) [
              | inl low ↦ so_far.all j low e
              | inr high ↦ (let q : n ≡ j = omega (arith, lt) in absurd (other (ap (container_of boxes) q)))
            ]
          ];
        }

    pub all_held : length boxes ≤ n → AreHolders asked boxes flags
    all_held done c = (
      λ e. so_far.are c e,
      λ h. rw (sym h.container) (so_far.all h.place (let lt = test_within (is_asked asked) boxes h.place h.is in omega (arith, lt)) h.is),
    )

  module _ (face : FaceValue) where
    nothing_kept : (k : ℕ) → IfSome (kept_at [] k) (λ ss. (ss ≡ segments_in face boxes k) × HoldsAsked asked boxes k)
    nothing_kept zero = tt
    nothing_kept (suc k) = tt

    -- nothing need be kept where no box is such a box
    pub nothing_asked : is_any_asked asked boxes ≡ false → AreAskedContents asked face boxes []
    nothing_asked none = record {
      all = λ k h. (let some = asked_any h.place h.is in absurd cc);
      alone = nothing_kept;
    }

    module _ (flags : List Bool) (kept : KeptSegments) (holders : AreHolders asked boxes flags) (marked : AreMarkedContents face boxes flags kept) where
      alone_by : (k : ℕ) (b : Bool) → flag_at flags k ≡ b → IfSome (kept_at kept k) (λ ss. (ss ≡ segments_in face boxes k) × HoldsAsked asked boxes k)
      alone_by k true e = rw (marked k, e) (refl, (holders k).0 e)
      alone_by k false e = rw (marked k, e) tt

      pub marked_asked : AreAskedContents asked face boxes kept
      marked_asked = record {
        all = λ k h. marked k ∙ ap (λ (b : Bool). kept_where b (segments_in face boxes k)) ((holders k).1 h);
        alone = λ k. alone_by k (flag_at flags k) refl;
      }

    content_by : (k : ℕ) (o : Option (List Segment)) → IfSome o (λ ss. (ss ≡ segments_in face boxes k) × HoldsAsked asked boxes k) → IfSome o (λ ss. ss ≡ segments_in face boxes k)
    content_by k None h = tt
    content_by k (Some ss) h = h.0

    -- what is kept is right
    pub asked_contents : (kept : KeptSegments) → AreAskedContents asked face boxes kept → AreContents face boxes kept
    asked_contents kept are k = content_by k (kept_at kept k) (are.alone k)
