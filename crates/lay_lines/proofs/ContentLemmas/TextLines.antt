-- Lines of text alone, in no inline box.
use Rattle.std.proofs.Common.{◌≡◌, ◌∙◌, inl, inr, ℕ, zero, suc, ◌+◌, ◌<◌, List, [], ◌∷◌, slice_get, Option, Some, None, refl, sym, ap, subst, arith}
use Rattle.std.specs.Prelude.{ℤ, pos, ◌≤ℤ◌, slice_index}
use Rattle.std.proofs.lemmas.Int.{ints}
use Rattle.std.proofs.lemmas.Bool.{cases_lt}
use Rattle.std.proofs.lemmas.Option.{same_Some}
use Rattle.lay_valign.specs.declared.parts.LineShape.{LineShape}
use Rattle.lay_valign.specs.Parts.{at, shift_at}
use Rattle.lay_valign.specs.Subtrees.{Subtrees, root_of, rise_of, IsGreatest, InSubtree, above_of, below_of}
use Rattle.lay_valign.specs.LineShape.{IsShape, shift_of}
use Rattle.lay_lines.specs.declared.content.content.Part.{Part}
use Rattle.lay_lines.specs.declared.content.content.Part.TheVariants.{Space, PreservedSpace, Tab, Linefeed, Text, Start, End, Atomic}
use Rattle.lay_lines.specs.declared.content.content.Stretch.{Stretch}
use Rattle.lay_lines.specs.declared.content.frame.Extent.{Extent}
use Rattle.lay_lines.specs.declared.content.frame.Frame.{Frame}
use Rattle.lay_lines.specs.Content.Extents.{strut_alone, Reading, reading_of, read, read_all, read_at, reading_to}
use Rattle.lay_lines.specs.Content.LineContents.{boxes_of_part, total, HasNoBoxes}

pub no_boxes_more : (ss : List Stretch) (n : ℕ) (s : Stretch) → HasNoBoxes ss n → slice_get ss n ≡ Some s → total boxes_of_part s.parts ≡ 0 → HasNoBoxes ss (n + 1)
no_boxes_more ss n s so_far is none k r lt at = elim (cases_lt k n) [
  | inl less ↦ so_far k r less at
  | inr more ↦ (let e : k ≡ n = omega (arith, lt, more) in
      let same : r ≡ s = same_Some _ _ (sym at ∙ subst (λ (i : ℕ). slice_get ss i ≡ Some s) (sym e) is) in
      subst (λ (q : Stretch). total boxes_of_part q.parts ≡ 0) (sym same) none)
]

abbrev text_alone : Extent → Reading
text_alone e = reading_of [] (strut_alone e)

read_text : (e : Extent) (x : Part) → boxes_of_part x ≡ 0 → read (text_alone e) x ≡ text_alone e
read_text e (Space w) none = refl
read_text e (PreservedSpace w) none = refl
read_text e (Tab t) none = refl
read_text e Linefeed none = refl
read_text e (Text w) none = refl
read_text e (Start b) none = absurd (omega (arith, none))
read_text e (End b) none = refl
read_text e (Atomic a) none = absurd (omega (arith, none))

read_texts : (e : Extent) (xs : List Part) → total boxes_of_part xs ≡ 0 → read_all (text_alone e) xs ≡ text_alone e
read_texts e [] none = refl
read_texts e (x ∷ xs) none = ap (λ (r : Reading). read_all r xs) (read_text e x (omega (arith, none))) ∙ read_texts e xs (omega (arith, none))

read_stretch : (e : Extent) (ss : List Stretch) (k : ℕ) (o : Option Stretch) → slice_get ss k ≡ o → ((s : Stretch) → slice_get ss k ≡ Some s → total boxes_of_part s.parts ≡ 0)
    → read_at (text_alone e) o ≡ text_alone e
read_stretch e ss k None is none = refl
read_stretch e ss k (Some s) is none = read_texts e s.parts (none s is)

-- such a line's only part is its strut
pub text_reading : (fr : Frame) (ss : List Stretch) (n : ℕ) → HasNoBoxes ss n → reading_to fr [] ss n ≡ text_alone fr.strut
text_reading fr ss zero none = refl
text_reading fr ss (suc n) none =
    ap (λ (r : Reading). read_at r (slice_get ss n)) (text_reading fr ss n (λ k s lt at. none k s (omega (arith, lt)) at))
    ∙ read_stretch fr.strut ss n (slice_get ss n) refl (λ s at. none n s (omega arith) at)

abbrev strut_subtrees : Extent → Subtrees
strut_subtrees e = record { roots = 0 ∷ []; rises = pos 0 ∷ []; aboves = e.above.0 ∷ []; belows = e.below.0 ∷ [] }

abbrev strut_shape_of : Extent → LineShape
strut_shape_of e = record { shifts = record { 0 = pos 0 } ∷ []; above = e.above; below = e.below }

one_place : (value : ℕ → ℤ) (v : ℤ) → value 0 ≡ v → (root : ℕ) → root < 1 → IsGreatest (InSubtree (0 ∷ []) root) value (at (v ∷ []) root)
one_place value v is zero lt = record {
  one_of = (0, (omega arith, refl), is);
  most = λ k of. (let l = of.0 in let e : k ≡ 0 = omega (arith, l) in subst (λ (i : ℕ). value i ≤ℤ v) (sym e) (omega (arith, ints, is)));
}
one_place value v is (suc root) lt = absurd (omega (arith, lt))

-- and it reaches as far as that
pub strut_shape_is : (e : Extent) → IsShape (strut_alone e).parts (strut_shape_of e)
strut_shape_is e = record {
  subtrees = strut_subtrees e;
  are_subtrees = record {
    roots = record { as_many = refl; each = λ k lt. (let z : k ≡ 0 = omega (arith, lt) in subst (λ (i : ℕ). slice_index (0 ∷ []) i ≡ root_of (strut_alone e).parts (0 ∷ []) i) (sym z) refl) };
    rises = record { as_many = refl; each = λ k lt. (let z : k ≡ 0 = omega (arith, lt) in subst (λ (i : ℕ). at (pos 0 ∷ []) i ≡ rise_of (strut_alone e).parts (pos 0 ∷ []) i) (sym z) refl) };
    aboves = λ root lt own. one_place (above_of (strut_alone e).parts (pos 0 ∷ [])) e.above.0 (omega (arith, ints)) root lt;
    belows = λ root lt own. one_place (below_of (strut_alone e).parts (pos 0 ∷ [])) e.below.0 (omega (arith, ints)) root lt;
  };
  line = record {
    downward = record { from = omega (arith, ints); most = λ k al. (let a = al.within in let b = al.no_strut in absurd (omega (arith, a, b))); least = inl refl };
    upward = record { from = omega (arith, ints); most = λ k al. (let a = al.within in let b = al.no_strut in absurd (omega (arith, a, b))); least = inl refl };
  };
  as_many = refl;
  each = λ k lt. (let z : k ≡ 0 = omega (arith, lt) in subst (λ (i : ℕ). shift_at (strut_shape_of e).shifts i ≡ shift_of (strut_alone e).parts (strut_subtrees e) e.above.0 e.below.0 i) (sym z) refl);
}
