-- A printed block reads as the declarations that it spells.
use Rattle.std.proofs.Common.{◌≡◌, ◌∙◌, ℕ, zero, suc, ◌-◌, ◌<◌, List, [], ◌∷◌, ◌++◌, Bool, true, false, Option, Some, None, Ok, not, codes, map, length, take, drop, reverse, slice_index, option_map, option_and_then, ok_or, refl, sym, ap, subst, append_assoc, append-nil, length-append, arith}
use Rattle.std.specs.Prelude.{◌==◌, if◌then◌else◌}
use Rattle.std.specs.Char.{is_ascii_whitespace, to_ascii_lowercase}
use Rattle.std.specs.List.{list_all, AllByRecursion, AllZip}
use Rattle.std.specs.Result.{result_ok}
use Rattle.std.specs.Str.{is_utf8, str_eq_ignore_ascii_case}
use Rattle.std.proofs.lemmas.Bool.{and_parts, and_from, false≢true, ne_eqb}
use Rattle.lay_style.specs.declared.property.Property.{Property}
use Rattle.lay_style.specs.Values.{declaration_of as value_declaration}
use Rattle.lay_values.specs.declared.reading.ValueFault.TheVariants.{BadValue}
use Rattle.lay_values.specs.Names.{property_of}
use Rattle.lay_values.specs.Numbers.{leading, behind}
use Rattle.lay_values.specs.Reading.{without_end, trimmed, value_of, declared_for, read_declaration}
use Rattle.lay_sheet.specs.declared.declaration.SheetDecl.{SheetDecl}
use Rattle.lay_sheet.specs.Lists.{with_found}
use Rattle.lay_sheet.specs.Pieces.{is_other, part_to, behind_part}
use Rattle.lay_sheet.specs.Declarations.{before_exclamation, before_important, declaration_named, weighed, declared, declaration_of_part, AreDeclarations, no_part, one_part}
use Rattle.lay_sheet.specs.Printing.{PrintedDecl, weight_text, declaration_text, parted_text, is_of_property, is_of_value, begins_solid, IsValueText, SpellsDecl}
use Rattle.lay_sheet.proofs.Trimming.{all_on, all_take, take_front, drop_front_of, solid_on, solid_end, end_dropped, trimmed_is, trimmed_same, trimmed_solid}
use Rattle.lay_sheet.proofs.PrintedBytes.{avoids, all_other, is_clean, property_clean, value_clean, space_clean, property_solid, property_utf8, value_utf8, spaces_of_value}
use Rattle.lay_sheet.proofs.PrintedSelectors.{cut, uncut, padded_clean, first_part}

-- parts of a block without braces
part_cut : (front rest : List ℕ) → list_all is_clean front ≡ true → (part_to 0 (front ++ 59 ∷ rest) ≡ front) × (behind_part 0 (front ++ 59 ∷ rest) ≡ rest)
part_cut [] rest h = (refl, refl)
part_cut (b ∷ bs) rest h =
    let parts = and_parts (is_clean b) (list_all is_clean bs) h in
    let opening = avoids is_clean 123 refl b parts.0 in
    let closing = avoids is_clean 125 refl b parts.0 in
    let semicolon = avoids is_clean 59 refl b parts.0 in
    let was = part_cut bs rest parts.1 in
    rw (opening, closing, semicolon) (ap (λ z. b ∷ z) was.0, was.1)

part_whole : (text : List ℕ) → list_all is_clean text ≡ true → (part_to 0 text ≡ text) × (behind_part 0 text ≡ [])
part_whole [] h = (refl, refl)
part_whole (b ∷ bs) h =
    let parts = and_parts (is_clean b) (list_all is_clean bs) h in
    let opening = avoids is_clean 123 refl b parts.0 in
    let closing = avoids is_clean 125 refl b parts.0 in
    let semicolon = avoids is_clean 59 refl b parts.0 in
    let was = part_whole bs parts.1 in
    rw (opening, closing, semicolon) (ap (λ z. b ∷ z) was.0, was.1)

part_first : (text : List ℕ) (decls : List SheetDecl) → 0 < length text → AreDeclarations (behind_part 0 text) decls →
    AreDeclarations text (with_found (declaration_of_part (part_to 0 text)) decls)
part_first [] decls some rest = absurd (omega (arith, some))
part_first (b ∷ bs) decls some rest = one_part b bs decls rest

-- what a name and a value give doesn't depend on white space round the value
same_for : (o : Option Property) (text other : List ℕ) → trimmed text ≡ trimmed other → declared_for o text ≡ declared_for o other
same_for None text other e = refl
same_for (Some p) text other e = ap (λ z. ok_or (option_and_then (value_declaration p) (value_of p z)) BadValue) e

-- the byte at a place isn't `!`
no_mark : (text : List ℕ) (k : ℕ) → list_all (is_other 33) text ≡ true → (slice_index text k == 33) ≡ false
no_mark [] k h = refl
no_mark (b ∷ bs) zero h = other_byte (b == 33) (and_parts (is_other 33 b) (list_all (is_other 33) bs) h).0
  where
    other_byte : (c : Bool) → not c ≡ true → c ≡ false
    other_byte true e = absurd (false≢true e)
    other_byte false e = refl
no_mark (b ∷ bs) (suc k) h = no_mark bs k (and_parts (is_other 33 b) (list_all (is_other 33) bs) h).1

unmarked : (text : List ℕ) → list_all (is_other 33) text ≡ true → before_exclamation text ≡ None
unmarked text h = let none = no_mark text (length text - 1) h in rw none refl

none_either : (c : Bool) (o : Option (List ℕ)) → o ≡ None → (if c then o else None) ≡ None
none_either true o e = e
none_either false o e = refl

not_important : (text : List ℕ) → list_all (is_other 33) text ≡ true → before_important text ≡ None
not_important text h =
    let front = take (length text - 9) text in
    none_either (str_eq_ignore_ascii_case (codes "important") (drop (length text - 9) text)) (before_exclamation (without_end front))
    (unmarked (without_end front) (all_take (is_other 33) _ front (all_take (is_other 33) (length text - 9) text h)))

last_byte : (text : List ℕ) (b : ℕ) → slice_index (text ++ b ∷ []) (length text) ≡ b
last_byte [] b = refl
last_byte (x ∷ xs) b = last_byte xs b

marked : (text : List ℕ) → before_exclamation (text ++ 33 ∷ []) ≡ Some text
marked text =
    let l = length-append text (33 ∷ []) in
    let n : length (text ++ 33 ∷ []) - 1 ≡ length text = omega (arith, l) in
    ap (λ k. if slice_index (text ++ 33 ∷ []) k == 33 then Some (take k (text ++ 33 ∷ [])) else None) n
    ∙ ap (λ b. if b == 33 then Some (take (length text) (text ++ 33 ∷ [])) else None) (last_byte text 33)
    ∙ ap Some (take_front text (33 ∷ []))

module _ (gap : List ℕ) (white : list_all is_ascii_whitespace gap ≡ true) where
  important_is : (value : List ℕ) → before_important (value ++ ((gap ++ 33 ∷ gap) ++ codes "important")) ≡ Some (value ++ gap)
  important_is value =
      let word = codes "important" in
      let front = ((value ++ gap) ++ 33 ∷ []) ++ gap in
      let text : value ++ ((gap ++ 33 ∷ gap) ++ word) ≡ front ++ word = simp append_assoc refl in
      let l = length-append front word in
      let n : length (front ++ word) - 9 ≡ length front = omega (arith, l) in
      ap before_important text
      ∙ ap (λ k. if str_eq_ignore_ascii_case word (drop k (front ++ word)) then before_exclamation (without_end (take k (front ++ word))) else None) n
      ∙ ap (λ z. if str_eq_ignore_ascii_case word z then before_exclamation (without_end (take (length front) (front ++ word))) else None) (drop_front_of front word)
      ∙ ap (λ z. before_exclamation (without_end z)) (take_front front word)
      ∙ ap before_exclamation (end_dropped ((value ++ gap) ++ 33 ∷ []) gap white (solid_end (value ++ gap) (33 ∷ []) refl))
      ∙ marked (value ++ gap)

  named_as : (important : Bool) (name value : List ℕ) (d : SheetDecl) → is_utf8 name ≡ true → is_utf8 value ≡ true →
      read_declaration (map to_ascii_lowercase name) value ≡ Ok d.decl → important ≡ d.important → declaration_named important name value ≡ Some d
  named_as important name value d n v says weight =
      let kept : declaration_named important name value ≡ option_map (λ z. record { decl = z; important = important }) (result_ok (read_declaration (map to_ascii_lowercase name) value)) =
      rw (n, v) refl in
      kept ∙ ap (λ z. option_map (λ y. record { decl = y; important = important }) (result_ok z)) says
      ∙ ap (λ z. Some (record { decl = d.decl; important = z })) weight

  value_read : (name value : List ℕ) (d : SheetDecl) → IsValueText value → read_declaration (map to_ascii_lowercase name) value ≡ Ok d.decl →
      read_declaration (map to_ascii_lowercase name) (value ++ gap) ≡ Ok d.decl
  value_read name value d v says =
      same_for (property_of (map to_ascii_lowercase name)) (value ++ gap) value
      (trimmed_is [] value gap refl white v.begins v.ends ∙ sym (trimmed_same value v.begins v.ends))
      ∙ says

  weighed_is : (p : PrintedDecl) (d : SheetDecl) → SpellsDecl p d → (important : Bool) → p.important ≡ important →
      weighed p.name (p.value ++ weight_text gap important) (before_important (p.value ++ weight_text gap important)) ≡ Some d
  weighed_is p d s true e =
      ap (weighed p.name (p.value ++ weight_text gap true)) (important_is p.value)
      ∙ named_as true p.name (p.value ++ gap) d (property_utf8 p.name s.name) (value_utf8 (p.value ++ gap) (all_on is_of_value p.value gap s.value.bytes (spaces_of_value gap white)))
      (value_read p.name p.value d s.value s.says) (sym e ∙ s.important)
  weighed_is p d s false e =
      ap (λ z. weighed p.name z (before_important z)) (append-nil p.value)
      ∙ ap (weighed p.name p.value) (not_important p.value (all_other is_of_value 33 refl p.value s.value.bytes))
      ∙ named_as false p.name p.value d (property_utf8 p.name s.name) (value_utf8 p.value s.value.bytes) s.says (sym e ∙ s.important)

  weight_end : (value : List ℕ) (important : Bool) → begins_solid (reverse value) ≡ true → begins_solid (reverse (value ++ weight_text gap important)) ≡ true
  weight_end value true h = solid_end value ((gap ++ 33 ∷ gap) ++ codes "important") (solid_end (gap ++ 33 ∷ gap) (codes "important") refl)
  weight_end value false h = ap (λ z. begins_solid (reverse z)) (append-nil value) ∙ h

  sign_clean : (sign : ℕ) → is_clean sign ≡ true → list_all is_clean (gap ++ sign ∷ gap) ≡ true
  sign_clean sign h =
      let g = space_clean gap white in
      let one : list_all is_clean (sign ∷ gap) ≡ true = and_from (is_clean sign) (list_all is_clean gap) h g in
      all_on is_clean gap (sign ∷ gap) g one

  weight_clean : (important : Bool) → list_all is_clean (weight_text gap important) ≡ true
  weight_clean true = all_on is_clean (gap ++ 33 ∷ gap) (codes "important") (sign_clean 33 refl) refl
  weight_clean false = refl

  declaration_clean : (p : PrintedDecl) (d : SheetDecl) → SpellsDecl p d → list_all is_clean (declaration_text gap p) ≡ true
  declaration_clean p d s =
      all_on is_clean p.name ((gap ++ 58 ∷ gap) ++ (p.value ++ weight_text gap p.important)) (property_clean p.name s.name)
      (all_on is_clean (gap ++ 58 ∷ gap) (p.value ++ weight_text gap p.important) (sign_clean 58 refl)
      (all_on is_clean p.value (weight_text gap p.important) (value_clean p.value s.value.bytes) (weight_clean p.important)))

  declaration_is : (front : List ℕ) (p : PrintedDecl) (d : SheetDecl) → list_all is_ascii_whitespace front ≡ true → SpellsDecl p d →
      declaration_of_part (front ++ (declaration_text gap p ++ gap)) ≡ Some d
  declaration_is front p d h s =
      let name = front ++ (p.name ++ gap) in
      let value = p.value ++ weight_text gap p.important in
      let rest = gap ++ (value ++ gap) in
      let text : front ++ (declaration_text gap p ++ gap) ≡ name ++ 58 ∷ rest = simp append_assoc refl in
      let others : list_all (is_other 58) name ≡ true =
      all_on (is_other 58) front (p.name ++ gap) (all_other is_ascii_whitespace 58 refl front h)
      (all_on (is_other 58) p.name gap (all_other is_of_property 58 refl p.name s.name) (all_other is_ascii_whitespace 58 refl gap white)) in
      let parts = cut 58 name rest others in
      let some : (length (58 ∷ rest) == 0) ≡ false = ne_eqb (length (58 ∷ rest)) 0 (λ q. omega (arith, q)) in
      let there : declared p.name (58 ∷ rest) ≡ weighed p.name (trimmed rest) (before_important (trimmed rest)) = rw some refl in
      ap declaration_of_part text
      ∙ ap (λ z. declared (trimmed z) (behind (is_other 58) (name ++ 58 ∷ rest))) parts.0
      ∙ ap (declared (trimmed name)) parts.1
      ∙ ap (λ z. declared z (58 ∷ rest)) (trimmed_solid front p.name gap h white (property_solid p.name s.name))
      ∙ there
      ∙ ap (λ z. weighed p.name z (before_important z)) (trimmed_is gap value gap white white (solid_on p.value (weight_text gap p.important) s.value.begins) (weight_end p.value p.important s.value.ends))
      ∙ weighed_is p d s p.important refl

  -- white space alone says nothing
  space_says_nothing : (text : List ℕ) → list_all is_ascii_whitespace text ≡ true → AreDeclarations text []
  space_says_nothing [] h = no_part
  space_says_nothing (b ∷ bs) h =
      let whole = part_whole (b ∷ bs) (space_clean (b ∷ bs) h) in
      let plain = uncut 58 (b ∷ bs) (all_other is_ascii_whitespace 58 refl (b ∷ bs) h) in
      let none : declaration_of_part (part_to 0 (b ∷ bs)) ≡ None =
      ap declaration_of_part whole.0 ∙ ap (declared (trimmed (leading (is_other 58) (b ∷ bs)))) plain.1 in
      subst (λ z. AreDeclarations (b ∷ bs) (with_found z [])) none
      (part_first (b ∷ bs) [] (omega arith) (subst (λ z. AreDeclarations z []) (sym whole.1) no_part))

  abbrev block_text : List PrintedDecl → List ℕ
  block_text ps = parted_text gap (codes ";") (map (declaration_text gap) ps)

  -- a text with a sign isn't empty
  signed_some : (text : List ℕ) (sign : ℕ) (rest : List ℕ) → 0 < length (text ++ sign ∷ rest)
  signed_some text sign rest = let l = length-append text (sign ∷ rest) in omega (arith, l)

  padded_some : (front : List ℕ) (p : PrintedDecl) → 0 < length (front ++ (declaration_text gap p ++ gap))
  padded_some front p =
      let value = p.value ++ weight_text gap p.important in
      let text : front ++ (declaration_text gap p ++ gap) ≡ (front ++ (p.name ++ gap)) ++ 58 ∷ (gap ++ (value ++ gap)) = simp append_assoc refl in
      subst (λ z. 0 < length z) (sym text) (signed_some (front ++ (p.name ++ gap)) 58 (gap ++ (value ++ gap)))

  pub declarations_are : (front : List ℕ) (ps : List PrintedDecl) (ds : List SheetDecl) → list_all is_ascii_whitespace front ≡ true → AllZip SpellsDecl ps ds →
      AreDeclarations (front ++ (block_text ps ++ gap)) ds
  declarations_are front [] [] h all = space_says_nothing (front ++ gap) (all_on is_ascii_whitespace front gap h white)
  declarations_are front [] (d ∷ ds) h all = absurd all
  declarations_are front (p ∷ ps) [] h all = absurd all
  declarations_are front (p ∷ []) (d ∷ []) h all =
      let text = front ++ (declaration_text gap p ++ gap) in
      let whole = part_whole text (padded_clean gap white front (declaration_text gap p) h (declaration_clean p d all.0)) in
      subst (λ z. AreDeclarations text (with_found z [])) (ap declaration_of_part whole.0 ∙ declaration_is front p d h all.0)
      (part_first text [] (padded_some front p) (subst (λ z. AreDeclarations z []) (sym whole.1) no_part))
  declarations_are front (p ∷ []) (d ∷ e ∷ ds) h all = absurd all.1
  declarations_are front (p ∷ q ∷ ps) (d ∷ []) h all = absurd all.1
  declarations_are front (p ∷ q ∷ ps) (d ∷ e ∷ ds) h all =
      let first = front ++ (declaration_text gap p ++ gap) in
      let later = block_text (q ∷ ps) in
      let rest = gap ++ (later ++ gap) in
      let parts = part_cut first rest (padded_clean gap white front (declaration_text gap p) h (declaration_clean p d all.0)) in
      subst (λ z. AreDeclarations z (d ∷ e ∷ ds)) (sym (first_part gap white front (declaration_text gap p) 59 later))
      (subst (λ z. AreDeclarations (first ++ 59 ∷ rest) (with_found z (e ∷ ds))) (ap declaration_of_part parts.0 ∙ declaration_is front p d h all.0)
      (part_first (first ++ 59 ∷ rest) (e ∷ ds) (signed_some first 59 rest)
      (subst (λ z. AreDeclarations z (e ∷ ds)) (sym parts.1) (declarations_are gap (q ∷ ps) (e ∷ ds) white all.1))))

  pub all_declarations_clean : (ps : List PrintedDecl) (ds : List SheetDecl) → AllZip SpellsDecl ps ds → AllByRecursion (λ t. list_all is_clean t ≡ true) (map (declaration_text gap) ps)
  all_declarations_clean [] [] all = tt
  all_declarations_clean [] (d ∷ ds) all = absurd all
  all_declarations_clean (p ∷ ps) [] all = absurd all
  all_declarations_clean (p ∷ ps) (d ∷ ds) all = (declaration_clean p d all.0, all_declarations_clean ps ds all.1)
