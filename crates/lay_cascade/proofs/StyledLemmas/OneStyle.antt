-- A sheet styles a document in one way.
use Rattle.std.proofs.Common.{◌≡◌, ◌∙◌, ℕ, ◌<◌, List, [], length, refl, sym, ap, subst, arith}
use Rattle.std.specs.Prelude.{slice_index, slice_index_or, Option, Some, None}
use Rattle.std.specs.List.{slice_get}
use Rattle.std.proofs.lemmas.List.{ext_get_or}
use Rattle.lay_style.specs.declared.property.Property.{Property}
use Rattle.lay_style.specs.PropertyNumbers.{number_of}
use Rattle.lay_doc.specs.declared.node.Node.{Node}
use Rattle.lay_doc.specs.Document.{Document}
use Rattle.lay_cascade.specs.declared.node_names.names.Names.{Names}
use Rattle.lay_sheet.specs.Sheets.{RuleValue}
use Rattle.lay_sheet.specs.declared.declaration.SheetDecl.{SheetDecl}
use Rattle.lay_cascade.specs.declared.counts.Specificity.{Specificity}
use Rattle.lay_cascade.specs.Specificity.{specificity_of}
use Rattle.lay_cascade.specs.declared.styled.candidates.Candidate.{Candidate}
use Rattle.lay_cascade.specs.Styled.Weights.{key_of}
use Rattle.lay_cascade.specs.Styled.Winners.{sheet_candidate, restyled}
use Rattle.lay_cascade.specs.Styled.Cascade.{IsInSheet, IsGreatest, AreWinners, AreAllWinners}
use Rattle.lay_cascade.specs.Styled.Laws.{OneStyled}
use Rattle.lay_cascade.proofs.StyledLemmas.Keys.{one_key}
use Rattle.lay_cascade.proofs.StyledLemmas.Numbers.{property_at, number_at}

module _ (Holds : Candidate → Type 0) (one : (c d : Candidate) → Holds c → Holds d → key_of c.weight ≡ key_of d.weight → c ≡ d) where
  one_greatest : (f g : Option Candidate) → IsGreatest Holds f → IsGreatest Holds g → f ≡ g
  one_greatest None None a b = refl
  one_greatest None (Some d) a b = absurd (a.none d refl (b.some d refl))
  one_greatest (Some c) None a b = absurd (b.none c refl (a.some c refl))
  one_greatest (Some c) (Some d) a b =
      let p = a.some c refl in
      let q = b.some d refl in
      ap Some (one c d p q (one_key (key_of c.weight) (key_of d.weight) refl (a.greatest c d refl q) (b.greatest d c refl p)))

abbrev of_three : ℕ → ℕ → ℕ → Specificity
of_three l c t = record { labels = l; classes = c; tags = t }

same_specificity : (a b : Specificity) → a.labels ≡ b.labels → a.classes ≡ b.classes → a.tags ≡ b.tags → a ≡ b
same_specificity a b l c t = step
  where
    step : of_three a.labels a.classes a.tags ≡ of_three b.labels b.classes b.tags
    step = rw (l, c, t) refl

same_rule : (a b : RuleValue) → Some a ≡ Some b → a ≡ b
same_rule a b e = cc

same_decl : (a b : SheetDecl) → Some a ≡ Some b → a ≡ b
same_decl a b e = cc

-- two declarations of a sheet with one key are one
one_in_sheet : (rules : List RuleValue) (nodes : List Node) (names : List Names) (k : ℕ) (p : Property) (c d : Candidate) → IsInSheet rules nodes names k p c → IsInSheet rules nodes names k p d → key_of c.weight ≡ key_of d.weight → c ≡ d
one_in_sheet rules nodes names k p c d a b key =
    let x = a.1 in
    let y = b.1 in
    let at : (i : ℕ) → slice_index (key_of c.weight) i ≡ slice_index (key_of d.weight) i = λ i. ap (λ z. slice_index z i) key in
    let rules_at : c.weight.rule ≡ d.weight.rule = at 5 in
    let places_at : c.weight.place ≡ d.weight.place = at 6 in
    let rule_is : a.0.rule ≡ b.0.rule = sym (ap (λ (z : Candidate). z.weight.rule) x.is) ∙ rules_at ∙ ap (λ (z : Candidate). z.weight.rule) y.is in
    let place_is : x.place ≡ y.place = sym (ap (λ (z : Candidate). z.weight.place) x.is) ∙ places_at ∙ ap (λ (z : Candidate). z.weight.place) y.is in
    let rule : x.rule ≡ y.rule = same_rule x.rule y.rule (sym x.is_rule ∙ ap (slice_get rules) rule_is ∙ y.is_rule) in
    let decl : x.decl ≡ y.decl = same_decl x.decl y.decl (sym x.is_decl ∙ ap (λ (z : RuleValue). slice_get z.decls x.place) rule ∙ ap (slice_get y.rule.decls) place_is ∙ y.is_decl) in
    let specificity = same_specificity c.weight.specificity d.weight.specificity (at 2) (at 3) (at 4) in
    x.is
    ∙ ap (λ z. sheet_candidate z a.0.rule x.place x.decl) (sym (ap (λ (z : Candidate). z.weight.specificity) x.is) ∙ specificity ∙ ap (λ (z : Candidate). z.weight.specificity) y.is)
    ∙ ap (λ z. sheet_candidate (specificity_of b.1.selector) z x.place x.decl) rule_is
    ∙ ap (λ z. sheet_candidate (specificity_of b.1.selector) b.0.rule z x.decl) place_is
    ∙ ap (λ z. sheet_candidate (specificity_of b.1.selector) b.0.rule y.place z) decl
    ∙ sym y.is

module _ (rules : List RuleValue) (nodes : List Node) (names : List Names) where
  one_column : (k : ℕ) (a b : List (Option Candidate)) → AreWinners rules nodes names k a → AreWinners rules nodes names k b → a ≡ b
  one_column k a b x y = ext_get_or None a b (x.count ∙ sym y.count) at
    where
      of_property : (p : Property) → slice_index_or a (number_of p) None ≡ slice_index_or b (number_of p) None
      of_property p = one_greatest (IsInSheet rules nodes names k p) (one_in_sheet rules nodes names k p) (slice_index_or a (number_of p) None) (slice_index_or b (number_of p) None) (x.each p) (y.each p)

      at : (i : ℕ) → i < length a → slice_index_or a i None ≡ slice_index_or b i None
      at i h =
          let n = x.count in
          let e = number_at i (omega (arith, h, n)) in
          subst (λ z. slice_index_or a z None ≡ slice_index_or b z None) e (of_property (property_at i))

  one_table : (n : ℕ) (a b : List (List (Option Candidate))) → AreAllWinners rules nodes names n a → AreAllWinners rules nodes names n b → a ≡ b
  one_table n a b x y = ext_get_or [] a b (x.count ∙ sym y.count) at
    where
      at : (i : ℕ) → i < length a → slice_index_or a i [] ≡ slice_index_or b i []
      at i h =
          let m = x.count in
          let l : i < n = omega (arith, h, m) in
          one_column i (slice_index_or a i []) (slice_index_or b i []) (x.each i l) (y.each i l)

abbrev with_nodes : Document → List (List (Option Candidate)) → Document
with_nodes doc winners = record { width = doc.width; height = doc.height; nodes = restyled winners doc.nodes }

pub one_styled_lem : OneStyled
one_styled_lem doc rules names a b x y =
    x.is ∙ ap (with_nodes doc) (one_table rules doc.nodes names (length doc.nodes) x.winners y.winners x.are y.are) ∙ sym y.is
