-- The width of a cluster, summed up from its first character on, and the widths of a text one after the
-- other.
use Rattle.std.proofs.Common.{append_assoc, true, ◌≡◌, ℕ, suc, ◌+◌, ◌*◌, ◌≤◌, ℤ, pos, neg_ℤ, ◌+ℤ◌, ◌≤ℤ◌, List, [], ◌∷◌, ◌++◌, length, ap, sym, ◌∙◌, arith, refl, subst, length-append}
use Rattle.std.specs.Prelude.{All}
use Rattle.std.specs.Str.{IsUtf8, chars}
use Rattle.std.specs.List.{concat}
use lib.Utf8.{encode}
use Rattle.std.proofs.lemmas.Int.{ints}
use Rattle.std.proofs.lemmas.Str.{chars_past_char, IsUtf8-past_char, length-encode, len_utf8_bounds, chars-nil}
use Rattle.lay_units.specs.Units.{IsPosition}
use Rattle.lay_units.specs.declared.records.ClusterWidth.{ClusterWidth}
use Rattle.unicode_segmentation.specs.Grapheme.{graphemes, is_grapheme_break}
use Rattle.unicode_segmentation.proofs.SegmentsLemmas.{concat-segments}
use Rattle.lay_face.specs.FaceValue.{FaceValue}
use Rattle.lay_face.specs.declared.clusters.Setting.{Setting}
use Rattle.lay_face.specs.Clusters.{char_width, chars_width, spacing_after, cluster_width, placed_widths}

-- no sum of the widths of this many bytes is greater
abbrev pub most_of : ℕ → ℕ
most_of bytes = 4611686018427387904 + 9223372036854775806 * bytes

-- `rest` is what is left of the cluster, `total` what the part before it adds up to
pub record IsSummed (face : FaceValue) (s : Setting) (cluster rest : List ℕ) (total : ℤ) : Type 0 where
  pub utf8 : IsUtf8 rest
  pub sum : total +ℤ chars_width face s (chars rest) ≡ cluster_width face s cluster
  pub high : (total +ℤ pos (9223372036854775806 * length rest)) ≤ℤ pos (most_of (length cluster))
  pub low : neg_ℤ (pos (most_of (length cluster))) ≤ℤ (total +ℤ neg_ℤ (pos (9223372036854775806 * length rest)))

shorter : (c : ℕ) (rest after : List ℕ) → rest ≡ encode c ++ after → length after + 1 ≤ length rest
shorter c rest after e =
    let one = len_utf8_bounds c in
    let more = length-encode c in
    let all = ap length e ∙ length-append (encode c) after in omega (arith, one.0, more, all)

regrouped : (a b c : ℤ) → (a +ℤ b) +ℤ c ≡ a +ℤ (b +ℤ c)
regrouped a b c = omega (arith, ints)

pub summed_first : (face : FaceValue) (s : Setting) (cluster : List ℕ) (total : ℤ) → IsUtf8 cluster → total ≡ spacing_after s cluster → IsPosition total
    → IsSummed face s cluster cluster total
summed_first face s cluster total utf8 e fits = record {
  utf8 = utf8;
  sum = ap (λ n. n +ℤ chars_width face s (chars cluster)) e ∙ swapped (spacing_after s cluster) (chars_width face s (chars cluster));
  high = omega (arith, ints, fits.1);
  low = omega (arith, ints, fits.0);
}
  where
    swapped : (a b : ℤ) → a +ℤ b ≡ b +ℤ a
    swapped a b = omega (arith, ints)

pub summed_more : (face : FaceValue) (s : Setting) (cluster rest after : List ℕ) (c : ℕ) (total w sum : ℤ) → IsSummed face s cluster rest total → rest ≡ encode c ++ after
    → w ≡ char_width face s c → neg_ℤ (pos 9223372036854775806) ≤ℤ w → w ≤ℤ pos 9223372036854775806 → sum ≡ total +ℤ w → IsSummed face s cluster after sum
summed_more face s cluster rest after c total w sum is e value low high total_is =
    let less = shorter c rest after e in
    let spelled : chars rest ≡ c ∷ chars after = chars_past_char rest after c is.utf8 e in
    record {
      utf8 = IsUtf8-past_char rest after c is.utf8 e;
      sum = ap (λ n. n +ℤ chars_width face s (chars after)) (total_is ∙ ap (λ n. total +ℤ n) value)
          ∙ regrouped total (char_width face s c) (chars_width face s (chars after))
          ∙ ap (λ cs. total +ℤ chars_width face s cs) (sym spelled) ∙ is.sum;
      high = omega (arith, ints, less, is.high, high, total_is);
      low = omega (arith, ints, less, is.low, low, total_is);
    }

pub summed_all : (face : FaceValue) (s : Setting) (cluster rest : List ℕ) (total : ℤ) → length rest ≡ 0 → IsSummed face s cluster rest total → total ≡ cluster_width face s cluster
summed_all face s cluster [] total e is =
    let sum : total +ℤ pos 0 ≡ cluster_width face s cluster = ap (λ cs. total +ℤ chars_width face s cs) (sym chars-nil) ∙ is.sum in
    omega (arith, ints, sum)
summed_all face s cluster (b ∷ bs) total e is = absurd (omega (arith, e))

-- before the first cluster
pub clusters_fill : (text : List ℕ) (left : List (List ℕ)) → IsUtf8 text → left ≡ graphemes true text → 0 + length (concat left) ≡ length text
clusters_fill text left utf8 e =
    let all : concat (graphemes true text) ≡ text = concat-segments (is_grapheme_break true) text utf8 in
    let same : length (concat left) ≡ length text = ap (λ g. length (concat g)) e ∙ ap length all in omega (arith, same)

pub placed_more : (face : FaceValue) (s : Setting) (out : List ClusterWidth) (place : ℕ) (g : List ℕ) (left after : List (List ℕ)) (w : ℤ) (all : List ClusterWidth)
    → out ++ placed_widths face s place left ≡ all → left ≡ g ∷ after → w ≡ cluster_width face s g
    → (out ++ record { place = place; width = record { 0 = w } } ∷ []) ++ placed_widths face s (place + length g) after ≡ all
placed_more face s out place g left after w all is e value =
    append_assoc out _ _
    ∙ ap (λ (n : ℤ). out ++ record { place = place; width = record { 0 = n } } ∷ placed_widths face s (place + length g) after) value
    ∙ ap (λ (gs : List (List ℕ)). out ++ placed_widths face s place gs) (sym e) ∙ is

pub filled_more : (place total : ℕ) (g : List ℕ) (left after : List (List ℕ)) → place + length (concat left) ≡ total → left ≡ g ∷ after → (place + length g) + length (concat after) ≡ total
filled_more place total g left after is e =
    let cut : length (concat left) ≡ length g + length (concat after) = ap (λ gs. length (concat gs)) e ∙ length-append g (concat after) in
    omega (arith, is, cut)

-- what holds of each of a list holds of the one after its front
pub all_next : {X : Type 0} (P : X → Type 0) (front : List X) (x : X) (after all : List X) → front ++ x ∷ after ≡ all → All P all → P x
all_next P [] x after all e is = subst (All P) (sym e) is 0 x (omega arith)
all_next P (y ∷ front) x after all e is = all_next P front x after (front ++ x ∷ after) refl (λ k d below. subst (All P) (sym e) is (suc k) d (omega (arith, below)))

pub width_next : (face : FaceValue) (s : Setting) (out : List ClusterWidth) (place : ℕ) (g : List ℕ) (left after : List (List ℕ)) (all : List ClusterWidth)
    → out ++ placed_widths face s place left ≡ all → left ≡ g ∷ after → All (λ (w : ClusterWidth). IsPosition w.width.0) all → IsPosition (cluster_width face s g)
width_next face s out place g left after all is e fits =
    all_next (λ (w : ClusterWidth). IsPosition w.width.0) out _ _ all (ap (λ (gs : List (List ℕ)). out ++ placed_widths face s place gs) (sym e) ∙ is) fits
