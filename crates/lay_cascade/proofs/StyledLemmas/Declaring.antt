-- What a node declares in the end has the greatest key of all that it may have.
use Rattle.std.proofs.Common.{◌≡◌, ◌∙◌, ℕ, zero, suc, ◌<◌, ◌≤◌, ◌⊎◌, inl, inr, List, [], ◌∷◌, Bool, true, false, length, refl, sym, ap, subst, arith}
use Rattle.std.specs.Prelude.{slice_index_or, Option, Some, None, is_none, ◌||◌, if◌then◌else◌}
use Rattle.std.specs.List.{slice_get}
use Rattle.std.proofs.lemmas.Bool.{false≢true, eq-eqb, eqb-true, ne_eqb, cases_lt}
use Rattle.std.proofs.lemmas.Option.{slice_get_within}
use Rattle.std.proofs.Math.ListN.{get_or-eq_default}
use Rattle.lay_style.specs.declared.property.Property.{Property}
use Rattle.lay_style.specs.declared.property.Given.{Given}
use Rattle.lay_style.specs.Values.{Declaration}
use Rattle.lay_style.specs.PropertyNumbers.{number_of}
use Rattle.lay_style.specs.Declarations.{declared_value, with_declaration}
use Rattle.lay_style.proofs.Cleared.{sets_one_lem}
use Rattle.lay_doc.specs.declared.node.Node.{Node}
use Rattle.lay_doc.specs.Document.{Document}
use Rattle.lay_cascade.specs.declared.node_names.names.Names.{Names}
use Rattle.lay_sheet.specs.Sheets.{RuleValue}
use Rattle.lay_cascade.specs.declared.styled.candidates.Candidate.{Candidate}
use Rattle.lay_cascade.specs.Styled.Weights.{key_of, own_key, is_less_key, is_lighter}
use Rattle.lay_cascade.specs.Styled.Winners.{settled_one, with_winners, restyled}
use Rattle.lay_cascade.specs.Styled.Cascade.{IsInSheet, IsGreatest, AreWinners}
use Rattle.lay_cascade.specs.Styled.Laws.{MayHave, by_sheet, by_itself, StyledDeclares}
use Rattle.lay_cascade.proofs.StyledLemmas.Numbers.{number_below, number_at, property_at}

-- what a property is declared as, where this is taken for it
abbrev outcome : Option Candidate → Option Given → Option Given
outcome None v = v
outcome (Some c) v = if c.weight.important || is_none v then Some c.decl.value else v

module _ (p : Property) where
  -- a declaration of another property changes nothing for this one
  other_one : (c : Candidate) (ds : List Declaration) → (number_of p ≡ number_of c.decl.property → ⊥) → declared_value p (settled_one c ds) ≡ declared_value p ds
  other_one c ds ne = of_test (c.weight.important || is_none (declared_value c.decl.property ds))
    where
      of_test : (t : Bool) → declared_value p (if t then with_declaration c.decl ds else ds) ≡ declared_value p ds
      of_test true = sets_one_lem p c.decl ds ∙ rw (ne_eqb (number_of p) (number_of c.decl.property) ne) refl
      of_test false = refl

  others : (ws : List (Option Candidate)) (ds : List Declaration) → ((i : ℕ) (c : Candidate) → slice_index_or ws i None ≡ Some c → number_of p ≡ number_of c.decl.property → ⊥) → declared_value p (with_winners ws ds) ≡ declared_value p ds
  others [] ds none = refl
  others (None ∷ ws) ds none = others ws ds (λ i c e. none (suc i) c e)
  others (Some c ∷ ws) ds none = others ws (settled_one c ds) (λ i d e. none (suc i) d e) ∙ other_one c ds (none 0 c refl)

  same_value : (q : Property) (ds : List Declaration) → number_of p ≡ number_of q → declared_value q ds ≡ declared_value p ds
  same_value q [] e = refl
  same_value q (d ∷ ds) e = let rest = same_value q ds e in rw (e, rest) refl

  own_one : (c : Candidate) (ds : List Declaration) → number_of p ≡ number_of c.decl.property → declared_value p (settled_one c ds) ≡ outcome (Some c) (declared_value p ds)
  own_one c ds e =
      ap (λ v. declared_value p (if c.weight.important || is_none v then with_declaration c.decl ds else ds)) (same_value c.decl.property ds e)
      ∙ of_test (c.weight.important || is_none (declared_value p ds))
    where
      of_test : (t : Bool) → declared_value p (if t then with_declaration c.decl ds else ds) ≡ (if t then Some c.decl.value else declared_value p ds)
      of_test true = sets_one_lem p c.decl ds ∙ rw (eq-eqb (number_of p) (number_of c.decl.property) e) refl
      of_test false = refl

  at_place : (ws : List (Option Candidate)) (ds : List Declaration) (i : ℕ) (o : Option Candidate) → i < length ws → slice_index_or ws i None ≡ o → ((c : Candidate) → o ≡ Some c → number_of p ≡ number_of c.decl.property) →
      ((j : ℕ) (c : Candidate) → slice_index_or ws j None ≡ Some c → (j ≡ i → ⊥) → number_of p ≡ number_of c.decl.property → ⊥) → declared_value p (with_winners ws ds) ≡ outcome o (declared_value p ds)
  at_place [] ds i o h is own none = absurd (omega (arith, h))
  at_place (None ∷ ws) ds zero o h is own none = others ws ds (λ j c e. none (suc j) c e (λ q. absurd (omega (arith, q)))) ∙ ap (λ z. outcome z (declared_value p ds)) is
  at_place (Some c ∷ ws) ds zero o h is own none =
      others ws (settled_one c ds) (λ j d e. none (suc j) d e (λ q. absurd (omega (arith, q)))) ∙ own_one c ds (own c (sym is)) ∙ ap (λ z. outcome z (declared_value p ds)) is
  at_place (None ∷ ws) ds (suc i) o h is own none = at_place ws ds i o (omega (arith, h)) is own (λ j c e ne. none (suc j) c e (λ q. ne (omega (arith, q))))
  at_place (Some c ∷ ws) ds (suc i) o h is own none =
      at_place ws (settled_one c ds) i o (omega (arith, h)) is own (λ j d e ne. none (suc j) d e (λ q. ne (omega (arith, q))))
      ∙ ap (outcome o) (other_one c ds (none 0 c refl (λ q. absurd (omega (arith, q)))))

some-value : (a b : Given) → Some a ≡ Some b → a ≡ b
some-value a b e = cc

none-value : (a : Given) → None ≡ Some a → ⊥
none-value a e = absurd cc

some-node : (a b : Node) → Some a ≡ Some b → a ≡ b
some-node a b e = cc

module _ (rules : List RuleValue) (nodes : List Node) (names : List Names) (k : ℕ) (p : Property) (n : Node) (here : slice_get nodes k ≡ Some n) where
  abbrev Greatest : Option Candidate → Type 0
  Greatest o = IsGreatest (IsInSheet rules nodes names k p) o

  abbrev Best : Given → Type 0
  Best value = (key : List ℕ) × MayHave rules nodes names k p key value × ((other : List ℕ) (v : Given) → MayHave rules nodes names k p other v → is_less_key key other ≡ false)

  own_value : (m : Node) (v : Given) → slice_get nodes k ≡ Some m → declared_value p m.decls ≡ Some v → declared_value p n.decls ≡ Some v
  own_value m v is e = subst (λ (z : Node). declared_value p z.decls ≡ Some v) (some-node m n (sym is ∙ here)) e

  -- its own, where the sheet has none
  own_alone : (v : Given) → declared_value p n.decls ≡ Some v → Greatest None → Best v
  own_alone v e g = (own_key, by_itself n v here e, over)
    where
      over : (other : List ℕ) (w : Given) → MayHave rules nodes names k p other w → is_less_key own_key other ≡ false
      over other w (by_sheet c i) = absurd (g.none c refl i)
      over other w (by_itself m x is q) = refl

  -- its own, over what isn't important
  own_over : (c : Candidate) (v : Given) → declared_value p n.decls ≡ Some v → c.weight.important ≡ false → Greatest (Some c) → Best v
  own_over c v e plain g = (own_key, by_itself n v here e, over)
    where
      of_importance : (d : Candidate) (t : Bool) → d.weight.important ≡ t → is_lighter c.weight d.weight ≡ false → is_less_key own_key (key_of d.weight) ≡ false
      of_importance d true q f = absurd (false≢true (sym f ∙ rw (plain, q) refl))
      of_importance d false q f = rw q refl

      over : (other : List ℕ) (w : Given) → MayHave rules nodes names k p other w → is_less_key own_key other ≡ false
      over other w (by_sheet d i) = of_importance d d.weight.important refl (g.greatest c d refl i)
      over other w (by_itself m x is q) = refl

  -- the sheet's, where it is important
  sheet_over : (c : Candidate) → c.weight.important ≡ true → Greatest (Some c) → Best c.decl.value
  sheet_over c important g = (key_of c.weight, by_sheet c (g.some c refl), over)
    where
      over : (other : List ℕ) (w : Given) → MayHave rules nodes names k p other w → is_less_key (key_of c.weight) other ≡ false
      over other w (by_sheet d i) = g.greatest c d refl i
      over other w (by_itself m x is q) = rw important refl

  -- or where the node has none
  sheet_alone : (c : Candidate) → declared_value p n.decls ≡ None → Greatest (Some c) → Best c.decl.value
  sheet_alone c e g = (key_of c.weight, by_sheet c (g.some c refl), over)
    where
      over : (other : List ℕ) (w : Given) → MayHave rules nodes names k p other w → is_less_key (key_of c.weight) other ≡ false
      over other w (by_sheet d i) = g.greatest c d refl i
      over other w (by_itself m x is q) = absurd (none-value x (sym e ∙ own_value m x is q))

  best : (o : Option Candidate) (v : Option Given) (value : Given) → declared_value p n.decls ≡ v → Greatest o → outcome o v ≡ Some value → Best value
  best None v value e g is = own_alone value (e ∙ is) g
  best (Some c) v value e g is = of_importance c.weight.important v refl e is
    where
      of_importance : (t : Bool) (v : Option Given) → c.weight.important ≡ t → declared_value p n.decls ≡ v → (if t || is_none v then Some c.decl.value else v) ≡ Some value → Best value
      of_importance true v q e is = subst Best (some-value c.decl.value value is) (sheet_over c q g)
      of_importance false None q e is = subst Best (some-value c.decl.value value is) (sheet_alone c e g)
      of_importance false (Some w) q e is = own_over c value (e ∙ is) q g

  nothing : (o : Option Candidate) (v : Option Given) → declared_value p n.decls ≡ v → Greatest o → outcome o v ≡ None → (key : List ℕ) (w : Given) → MayHave rules nodes names k p key w → ⊥
  nothing None v e g is key w (by_sheet c i) = g.none c refl i
  nothing None v e g is key w (by_itself m x q f) = none-value x (sym (e ∙ is) ∙ own_value m x q f)
  nothing (Some c) v e g is key w may = of_test c.weight.important v is
    where
      of_test : (t : Bool) (v : Option Given) → (if t || is_none v then Some c.decl.value else v) ≡ None → ⊥
      of_test true v q = none-value c.decl.value (sym q)
      of_test false None q = none-value c.decl.value (sym q)
      of_test false (Some x) q = none-value x (sym q)

-- the node at a place, before and after
found_at : (ws : List (List (Option Candidate))) (nodes : List Node) (k : ℕ) (node : Node) → length ws ≡ length nodes → slice_get (restyled ws nodes) k ≡ Some node →
    (n : Node) × (slice_get nodes k ≡ Some n) × (node.decls ≡ with_winners (slice_index_or ws k []) n.decls)
found_at [] [] k node count is = absurd (none-node node is)
  where
    none-node : (a : Node) → None ≡ Some a → ⊥
    none-node a e = absurd cc
found_at [] (n ∷ ns) k node count is = absurd (omega (arith, count))
found_at (w ∷ ws) [] k node count is = absurd (omega (arith, count))
found_at (w ∷ ws) (n ∷ ns) zero node count is = (n, refl, ap (λ (z : Node). z.decls) (sym (some-node (record n { decls = with_winners w n.decls }) node is)))
found_at (w ∷ ws) (n ∷ ns) (suc k) node count is = found_at ws ns k node (omega (arith, count)) is

-- each stands at the number of its property
module _ (rules : List RuleValue) (nodes : List Node) (names : List Names) (k : ℕ) (ws : List (Option Candidate)) (are : AreWinners rules nodes names k ws) where
  numbered_own : (p : Property) (c : Candidate) → slice_index_or ws (number_of p) None ≡ Some c → number_of p ≡ number_of c.decl.property
  numbered_own p c e =
      let w = (are.each p).some c e in
      eqb-true (number_of p) (number_of w.1.decl.decl.property) w.1.property ∙ sym (ap (λ (z : Candidate). number_of z.decl.property) w.1.is)

  none-candidate : (c : Candidate) → None ≡ Some c → ⊥
  none-candidate c e = absurd cc

  numbered_other : (p : Property) (j : ℕ) (c : Candidate) → slice_index_or ws j None ≡ Some c → (j ≡ number_of p → ⊥) → number_of p ≡ number_of c.decl.property → ⊥
  numbered_other p j c e ne same = of_cases (cases_lt j 46)
    where
      of_cases : (j < 46) ⊎ (46 ≤ j) → ⊥
      of_cases (inl l) =
          let q = number_at j l in
          ne (sym q ∙ numbered_own (property_at j) c (ap (λ z. slice_index_or ws z None) q ∙ e) ∙ sym same)
      of_cases (inr l) = let n = are.count in none-candidate c (sym (get_or-eq_default ws None (omega (arith, l, n))) ∙ e)

  declares : (p : Property) (ds : List Declaration) → declared_value p (with_winners ws ds) ≡ outcome (slice_index_or ws (number_of p) None) (declared_value p ds)
  declares p ds =
      let h = number_below p in
      let n = are.count in
      at_place p ws ds (number_of p) (slice_index_or ws (number_of p) None) (omega (arith, h, n)) refl (λ c e. numbered_own p c e) (λ j c e ne. numbered_other p j c e ne)

pub styled_declares_lem : StyledDeclares
styled_declares_lem doc rules names new styled k node is p = (
  λ value e. best rules doc.nodes names k p f.0 f.1 (slice_index_or (slice_index_or styled.winners k []) (number_of p) None) (declared_value p f.0.decls) value refl (are.each p) (sym says ∙ e),
  λ e. nothing rules doc.nodes names k p f.0 f.1 (slice_index_or (slice_index_or styled.winners k []) (number_of p) None) (declared_value p f.0.decls) refl (are.each p) (sym says ∙ e),
)
  where
    was : slice_get (restyled styled.winners doc.nodes) k ≡ Some node
    was = subst (λ (z : Document). slice_get z.nodes k ≡ Some node) styled.is is

    f : (n : Node) × (slice_get doc.nodes k ≡ Some n) × (node.decls ≡ with_winners (slice_index_or styled.winners k []) n.decls)
    f = found_at styled.winners doc.nodes k node styled.are.count was

    are : AreWinners rules doc.nodes names k (slice_index_or styled.winners k [])
    are = styled.are.each k (slice_get_within doc.nodes k f.0 f.1)

    says : declared_value p node.decls ≡ outcome (slice_index_or (slice_index_or styled.winners k []) (number_of p) None) (declared_value p f.0.decls)
    says = ap (declared_value p) f.2 ∙ declares rules doc.nodes names k (slice_index_or styled.winners k []) are p f.0.decls
