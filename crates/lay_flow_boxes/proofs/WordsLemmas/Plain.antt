-- Bytes that are nothing but text to a line: no space, linefeed, tab or zero width space. Two such stretches that meet at a character are
-- one such stretch.
use Rattle.std.proofs.Common.{◌≡◌, ◌⊎◌, inl, inr, ℕ, ◌+◌, ◌<◌, ◌≤◌, Bool, true, false, ◌&&◌, ◌||◌, ◌==◌, nat_lt, if◌then◌else◌, List, length, slice_index, refl, sym, ap, ◌∙◌, subst, arith, eq-eqb, ne_eqb, eqb-true, le-ltb}
use Rattle.std.proofs.lemmas.Bool.{cases_eq, cases_lt, false_from_ne_true, both_ways, and_parts}
use Rattle.lay_space.specs.declared.item.Mode.{Mode}
use Rattle.lay_space.specs.declared.tokens.ClusterKind.{ClusterKind}
use Rattle.lay_space.specs.declared.tokens.ClusterKind.TheVariants.{PreservedSpace, Linefeed, Tab, ZeroWidthSpace, Other}
use Rattle.lay_space.specs.Modes.{collapses, joins_lines}
use Rattle.lay_space.specs.Segments.{is_boundary}
use Rattle.lay_space.specs.Tokens.{is_byte, is_linefeed, is_zero_width_space, kind_of, space_kind}
use Rattle.lay_line_items.specs.GatheredWidths.{is_more, stands_alone}

abbrev pub IsByte : List ℕ → ℕ → ℕ → ℕ → Type 0
IsByte text from to byte = (to ≡ from + 1) × (slice_index text from ≡ byte)

abbrev pub IsReturn : List ℕ → ℕ → ℕ → Type 0
IsReturn text from to = (to ≡ from + 2) × (slice_index text from ≡ 13) × (slice_index text (from + 1) ≡ 10)

abbrev pub IsZeroWidth : List ℕ → ℕ → ℕ → Type 0
IsZeroWidth text from to =
    (to ≡ from + 3) × (slice_index text from ≡ 226) × (slice_index text (from + 1) ≡ 128) × (slice_index text (from + 2) ≡ 139)

pub record IsPlain (text : List ℕ) (from to : ℕ) : Type 0 where
  pub space : IsByte text from to 32 → ⊥
  pub linefeed : IsByte text from to 10 → ⊥
  pub tab : IsByte text from to 9 → ⊥
  pub crlf : IsReturn text from to → ⊥
  pub zero_width : IsZeroWidth text from to → ⊥

both : (a b : Bool) → a ≡ true → b ≡ true → a && b ≡ true
both true b p q = q
both false b p q = absurd (cc (p))

first_of : (a b : Bool) → a ≡ true → a || b ≡ true
first_of true b p = refl
first_of false b p = absurd (cc (p))

second_of : (a b : Bool) → b ≡ true → a || b ≡ true
second_of true b p = refl
second_of false b p = p

one_of : (a b : Bool) → a || b ≡ true → (a ≡ true) ⊎ (b ≡ true)
one_of true b h = inl refl
one_of false b h = inr h

byte_true : (text : List ℕ) (from to byte : ℕ) → IsByte text from to byte → is_byte text from to byte ≡ true
byte_true text from to byte is = both (to == from + 1) (slice_index text from == byte) (eq-eqb _ _ is.0) (eq-eqb _ _ is.1)

byte_of : (text : List ℕ) (from to byte : ℕ) → is_byte text from to byte ≡ true → IsByte text from to byte
byte_of text from to byte h =
    let s = and_parts (to == from + 1) (slice_index text from == byte) h in (eqb-true _ _ s.0, eqb-true _ _ s.1)

return_true : (text : List ℕ) (from to : ℕ) → IsReturn text from to → is_linefeed text from to ≡ true
return_true text from to is =
    second_of (is_byte text from to 10) (to == from + 2 && slice_index text from == 13 && slice_index text (from + 1) == 10)
    (both (to == from + 2 && slice_index text from == 13) (slice_index text (from + 1) == 10)
    (both (to == from + 2) (slice_index text from == 13) (eq-eqb _ _ is.0) (eq-eqb _ _ is.1)) (eq-eqb _ _ is.2))

zero_true : (text : List ℕ) (from to : ℕ) → IsZeroWidth text from to → is_zero_width_space text from to ≡ true
zero_true text from to is =
    both (to == from + 3 && slice_index text from == 226 && slice_index text (from + 1) == 128) (slice_index text (from + 2) == 139)
    (both (to == from + 3 && slice_index text from == 226) (slice_index text (from + 1) == 128)
    (both (to == from + 3) (slice_index text from == 226) (eq-eqb _ _ is.0) (eq-eqb _ _ is.1)) (eq-eqb _ _ is.2)) (eq-eqb _ _ is.3)

zero_of : (text : List ℕ) (from to : ℕ) → is_zero_width_space text from to ≡ true → IsZeroWidth text from to
zero_of text from to h =
    let a = and_parts (to == from + 3 && slice_index text from == 226 && slice_index text (from + 1) == 128) (slice_index text (from + 2) == 139) h in
    let b = and_parts (to == from + 3 && slice_index text from == 226) (slice_index text (from + 1) == 128) a.0 in
    let c = and_parts (to == from + 3) (slice_index text from == 226) b.0 in
    (eqb-true _ _ c.0, eqb-true _ _ c.1, eqb-true _ _ b.1, eqb-true _ _ a.1)

linefeed_of : (text : List ℕ) (from to : ℕ) → is_linefeed text from to ≡ true → IsByte text from to 10 ⊎ IsReturn text from to
linefeed_of text from to h =
    by (one_of (is_byte text from to 10) (to == from + 2 && slice_index text from == 13 && slice_index text (from + 1) == 10) h)
  where
    by : (is_byte text from to 10 ≡ true) ⊎ ((to == from + 2 && slice_index text from == 13 && slice_index text (from + 1) == 10) ≡ true)
        → IsByte text from to 10 ⊎ IsReturn text from to
    by (inl p) = inl (byte_of text from to 10 p)
    by (inr q) =
        let a = and_parts (to == from + 2 && slice_index text from == 13) (slice_index text (from + 1) == 10) q in
        let b = and_parts (to == from + 2) (slice_index text from == 13) a.0 in
        inr (eqb-true _ _ b.0, eqb-true _ _ b.1, eqb-true _ _ a.1)

-- a cluster is of the last kind where no test is met, and nothing else is more than text
alone_tests : (a b c d : Bool)
    → is_more (if a then PreservedSpace else (if b then Linefeed else (if c then Tab else (if d then ZeroWidthSpace else Other)))) ≡ false
    → (a ≡ false) × (b ≡ false) × (c ≡ false) × (d ≡ false)
alone_tests true b c d h = absurd (cc (h))
alone_tests false true c d h = absurd (cc (h))
alone_tests false false true d h = absurd (cc (h))
alone_tests false false false true h = absurd (cc (h))
alone_tests false false false false h = (refl, refl, refl, refl)

pub plain_alone : (text : List ℕ) (from to : ℕ) → stands_alone text from to ≡ false → IsPlain text from to
plain_alone text from to h =
    let t = alone_tests (is_byte text from to 32) (is_linefeed text from to) (is_byte text from to 9) (is_zero_width_space text from to) h in
    record {
      space = λ is. both_ways _ t.0 (byte_true text from to 32 is);
      linefeed = λ is. both_ways _ t.1 (first_of (is_byte text from to 10) _ (byte_true text from to 10 is));
      tab = λ is. both_ways _ t.2 (byte_true text from to 9 is);
      crlf = λ is. both_ways _ t.1 (return_true text from to is);
      zero_width = λ is. both_ways _ t.3 (zero_true text from to is);
    }

kind_by : (x y z : ClusterKind) (a b c d : Bool) → a ≡ false → b ≡ false → c ≡ false → d ≡ false
    → (if a then x else (if b then y else (if c then z else (if d then ZeroWidthSpace else Other)))) ≡ Other
kind_by x y z a b c d p q r s = rw (p, q, r, s) refl

pub plain_kind : (m : Mode) (text : List ℕ) (from to : ℕ) → IsPlain text from to → kind_of m text from to ≡ Other
plain_kind m text from to plain =
    kind_by (space_kind m) (if joins_lines m then Other else Linefeed) (if collapses m then Other else Tab) _ _ _ _
    (false_from_ne_true _ (λ h. plain.space (byte_of text from to 32 h)))
    (false_from_ne_true _ (λ h. by (linefeed_of text from to h)))
    (false_from_ne_true _ (λ h. plain.tab (byte_of text from to 9 h)))
    (false_from_ne_true _ (λ h. plain.zero_width (zero_of text from to h)))
  where
    by : IsByte text from to 10 ⊎ IsReturn text from to → ⊥
    by (inl is) = plain.linefeed is
    by (inr is) = plain.crlf is

-- where a text can be cut
no_cut : (a b c d : Bool) → a || (b && (c || d)) ≡ true → a ≡ false → c ≡ false → d ≡ false → ⊥
no_cut true b c d h p q r = absurd (cc (p))
no_cut false true true d h p q r = absurd (cc (q))
no_cut false true false d h p q r = absurd (cc (h, r))
no_cut false false c d h p q r = absurd (cc (h))

inside : (text : List ℕ) (at byte : ℕ) → at < length text → slice_index text at ≡ byte → 128 ≤ byte → byte ≤ 191 → is_boundary text at ≡ true → ⊥
inside text at byte less is low high cut =
    no_cut (at == length text) (nat_lt at (length text)) (nat_lt (slice_index text at) 128) (nat_lt 191 (slice_index text at)) cut
    (ne_eqb at (length text) (λ e. omega (arith, e, less)))
    (le-ltb (slice_index text at) 128 (omega (arith, is, low)))
    (le-ltb 191 (slice_index text at) (omega (arith, is, high)))

no_place : (a b c : Bool) → a || (b && c) ≡ true → a ≡ false → b ≡ false → ⊥
no_place true b c h p q = absurd (cc (p))
no_place false true c h p q = absurd (cc (q))
no_place false false c h p q = absurd (cc (h))

-- two stretches are one
pub joined : (text : List ℕ) (from mid to : ℕ) → from ≤ mid → mid ≤ to → to ≤ length text → is_boundary text mid ≡ true
    → IsPlain text from mid → IsPlain text mid to → IsPlain text from to
joined text from mid to before after within cut first second = by (cases_eq mid from) (cases_eq mid to)
  where
    apart : (mid ≡ from → ⊥) → (mid ≡ to → ⊥) → IsPlain text from to
    apart some more = record {
      space = λ is. let e = is.0 in at_once (omega (arith, e));
      linefeed = λ is. let e = is.0 in at_once (omega (arith, e));
      tab = λ is. let e = is.0 in at_once (omega (arith, e));
      crlf = λ is. let e = is.0 in let m : mid ≡ from + 1 = next (omega (arith, e)) in
          second.linefeed (omega (arith, e, m), ap (slice_index text) m ∙ is.2);
      zero_width = λ is. let e = is.0 in third is (cases_eq mid (from + 1));
    }
      where
        far : (from < mid) × (mid < to)
        far = (less from mid before (λ e. some (sym e)), less mid to after more)
          where
            less : (a b : ℕ) → a ≤ b → (a ≡ b → ⊥) → a < b
            less a b le ne = from_cases (cases_lt a b)
              where
                from_cases : (a < b) ⊎ (b ≤ a) → a < b
                from_cases (inl lt) = lt
                from_cases (inr ge) = absurd (ne (omega (arith, le, ge)))

        at_once : to ≤ from + 1 → ⊥
        at_once e = let a = far.0 in let b = far.1 in omega (arith, a, b, e)

        next : to ≤ from + 2 → mid ≡ from + 1
        next e = let a = far.0 in let b = far.1 in omega (arith, a, b, e)

        third : IsZeroWidth text from to → (mid ≡ from + 1) ⊎ (mid ≡ from + 1 → ⊥) → ⊥
        third is (inl m) =
            let b = far.1 in inside text mid 128 (omega (arith, b, within)) (ap (slice_index text) m ∙ is.2) (omega arith) (omega arith) cut
        third is (inr other) =
            let a = far.0 in let b = far.1 in let e = is.0 in
            let m : mid ≡ from + 2 = last (cases_lt (from + 1) mid) in
            inside text mid 139 (omega (arith, b, within)) (ap (slice_index text) m ∙ is.3) (omega arith) (omega arith) cut
          where
            last : (from + 1 < mid) ⊎ (mid ≤ from + 1) → mid ≡ from + 2
            last (inl lt) = let b = far.1 in let e = is.0 in omega (arith, lt, b, e)
            last (inr le) = let a = far.0 in absurd (other (omega (arith, a, le)))

    by : (mid ≡ from) ⊎ (mid ≡ from → ⊥) → (mid ≡ to) ⊎ (mid ≡ to → ⊥) → IsPlain text from to
    by (inl e) end = subst (λ (k : ℕ). IsPlain text k to) e second
    by (inr some) (inl e) = subst (λ (k : ℕ). IsPlain text from k) e first
    by (inr some) (inr more) = apart some more
