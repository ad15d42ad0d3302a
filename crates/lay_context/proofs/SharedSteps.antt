-- The content of lines that tasks share, context by context.
use Rattle.std.proofs.Common.{◌≡◌, ◌∙◌, ℕ, ◌+◌, ◌<◌, ◌++◌, ◌∷◌, [], Bool, true, false, List, arith, inl, inr, length, refl, subst, sym, if◌then◌else◌}
use Rattle.std.proofs.lemmas.Bool.{cases_lt}
use Rattle.std.proofs.lemmas.Grind.{elements}
use Rattle.lay_face.specs.FaceValue.{FaceValue}
use Rattle.lay_line_items.specs.InlineContents.{KeptSegments}
use Rattle.lay_flow_boxes.specs.AskedContents.{AreAskedContents, is_any_asked}
use Rattle.lay_flow_boxes.specs.declared.asked_contents.Asked.{Asked}
use Rattle.lay_flow_boxes.specs.declared.asked_contents.Asked.TheVariants.{Texts as texts, Anchors as anchors, Nothing as nothing}
use Rattle.lay_context.proofs.Cited.{asked_any, asked_contents}
use Rattle.lay_contexts.specs.FormattingContexts.{FormattingContext, boxes_in}
use Rattle.lay_context.specs.Measured.{is_measured}
use Rattle.lay_context.specs.SharedContents.{AreContentsShared, HaveContents, TextsAreKept, asked_in, contents_in}

read_before : (contents : List KeptSegments) (kept : KeptSegments) (k : ℕ) → k < length contents → contents_in (contents ++ kept ∷ []) k ≡ contents_in contents k
read_before contents kept k lt = grind (arith, elements)

read_last : (contents : List KeptSegments) (kept : KeptSegments) (k : ℕ) → k ≡ length contents → contents_in (contents ++ kept ∷ []) k ≡ kept
read_last contents kept k is = grind (arith, elements)

both_true : (a b : Bool) → a ≡ true → b ≡ true → (if a then (if b then texts else anchors) else nothing) ≡ texts
both_true true true p q = refl
both_true true false p q = absurd cc
both_true false b p q = absurd cc

module _ (face : FaceValue) (contexts : List FormattingContext) where
  -- of the formatting contexts before n
  pub record SharedTo (contents : List KeptSegments) (n : ℕ) : Type 0 where
    pub count : length contents ≡ n
    pub each : (i : ℕ) → i < n → AreAskedContents (asked_in contexts i) face (boxes_in contexts i) (contents_in contents i)

  pub one_more : (contents : List KeptSegments) (n : ℕ) (kept : KeptSegments) → SharedTo contents n → AreAskedContents (asked_in contexts n) face (boxes_in contexts n) kept → SharedTo (contents ++ kept ∷ []) (n + 1)
  one_more contents n kept so_far are = record {
    count = grind (arith, elements, so_far.count);
    each = λ i lt. elim (cases_lt i n) [
      | inl low ↦ rw (read_before contents kept i (omega (arith, low, so_far.count))) (so_far.each i low)
      | inr high ↦ (let q : i ≡ n = omega (arith, lt, high) in
          rw (read_last contents kept i (q ∙ sym so_far.count)) (subst (λ (j : ℕ). AreAskedContents (asked_in contexts j) face (boxes_in contexts j) kept) (sym q) are))
    ];
  }

  texts_kept : (i : ℕ) (kept : KeptSegments) → AreAskedContents (asked_in contexts i) face (boxes_in contexts i) kept → TextsAreKept face contexts i kept
  texts_kept i kept are measured k holds =
      let any = asked_any texts (boxes_in contexts i) holds.place holds.is in
      let asked : asked_in contexts i ≡ texts = both_true (is_any_asked texts (boxes_in contexts i)) (is_measured contexts i) any measured in
      (subst (λ (a : Asked). AreAskedContents a face (boxes_in contexts i) kept) asked are).all k holds

  -- what is shared is right, and has all texts that are measured
  pub have_shared : (contents : List KeptSegments) → AreContentsShared face contexts contents → HaveContents face contexts contents
  have_shared contents are = record {
    count = are.count;
    each = λ i lt. asked_contents (asked_in contexts i) (boxes_in contexts i) face (contents_in contents i) (are.each i lt);
    texts = λ i lt. texts_kept i (contents_in contents i) (are.each i lt);
  }
