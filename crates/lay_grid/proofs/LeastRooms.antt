-- What cells need of the rows that they span.
use Rattle.std.proofs.Common.{◌≡◌, ◌⊎◌, inl, inr, ℕ, ◌+◌, ◌<◌, ◌≤◌, ℤ, ◌+ℤ◌, ◌-ℤ◌, ◌≤ℤ◌, Option, Some, None, List, [], ◌∷◌, ◌++◌, length, get_or, slice_get, refl, sym, ap, ◌∙◌, subst, replicate, below_more, arith}
use Rattle.std.specs.List.{Contains}
use Rattle.std.proofs.lemmas.Int.{ints}
use Rattle.std.proofs.lemmas.Bool.{cases_eq}
use Rattle.std.proofs.lemmas.List.Elements.{Contains-push, Contains-push_cases, Contains-append_left}
use Rattle.std.proofs.lemmas.List.{get_or-replicate, length-replicate}
use Rattle.std.proofs.lemmas.Option.{get_or_from_slice_get, slice_get-get_or}
use Rattle.lay_units.specs.declared.length.Unit.{Unit}
use Rattle.lay_units.specs.Units.{IsWithinPower}
use Rattle.lay_grid.specs.declared.heights.RowCell.{RowCell}
use Rattle.lay_grid.specs.declared.needs.Need.{Need}
use Rattle.lay_grid.specs.Heights.{IsRowBaseline, IsEnough}
use Rattle.lay_grid.specs.Pass.Baselines.{BaselineTo}
use Rattle.lay_grid.specs.Pass.Needs.{IsNeed, IsOfSome, NeedsTo, AllNeedsTo, Adds, last_row, room_of, room_of_baselines}
use Rattle.lay_grid.proofs.RowBaselines.{some_baseline, baseline_exists, baseline_same}

-- the least room that is enough
pub record IsLeastRoom (cells : List RowCell) (cell : RowCell) (room : ℤ) : Type 0 where
  pub enough : IsEnough cells cell cell.baseline room
  pub least : (other : ℤ) → IsEnough cells cell cell.baseline other → room ≤ℤ other

least_for : (cells : List RowCell) (cell : RowCell) (o p : Option Unit) → cell.baseline ≡ o → BaselineTo cells cell.row (length cells) p
    → ((own : Unit) → o ≡ Some own → (b : Unit) × (p ≡ Some b) × IsRowBaseline cells cell.row b.0)
    → IsLeastRoom cells cell (room_of_baselines cell.height.0 cell.baseline p)
least_for cells cell o p is to has = record {
  enough = subst (λ (x : Option Unit). IsEnough cells cell x (room_of_baselines cell.height.0 x p)) (sym is) (enough o has);
  least = subst (λ (x : Option Unit). (other : ℤ) → IsEnough cells cell x other → room_of_baselines cell.height.0 x p ≤ℤ other) (sym is) (least o has);
}
  where
    enough : (x : Option Unit) → ((own : Unit) → x ≡ Some own → (b : Unit) × (p ≡ Some b) × IsRowBaseline cells cell.row b.0)
        → IsEnough cells cell x (room_of_baselines cell.height.0 x p)
    enough None has = omega (arith, ints)
    enough (Some own) has =
        let h = has own refl in let value = ap (room_of_baselines cell.height.0 (Some own)) h.1 in
        λ b at. let s = baseline_same cells cell.row b h.0.0 at h.2 in omega (arith, ints, s, value)

    least : (x : Option Unit) → ((own : Unit) → x ≡ Some own → (b : Unit) × (p ≡ Some b) × IsRowBaseline cells cell.row b.0) → (other : ℤ)
        → IsEnough cells cell x other → room_of_baselines cell.height.0 x p ≤ℤ other
    least None has other en = en
    least (Some own) has other en =
        let h = has own refl in let value = ap (room_of_baselines cell.height.0 (Some own)) h.1 in let e = en h.0.0 h.2 in omega (arith, ints, e, value)

pub room_at : (cell : RowCell) (p : Option Unit) (own lowest : Unit) → cell.baseline ≡ Some own → p ≡ Some lowest
    → room_of cell p ≡ (cell.height.0 +ℤ (lowest.0 -ℤ own.0))
room_at cell p own lowest e f = ap (λ (o : Option Unit). room_of_baselines cell.height.0 o p) e ∙ ap (room_of_baselines cell.height.0 (Some own)) f

pub least_room : (cells : List RowCell) (k : ℕ) (cell : RowCell) (p : Option Unit) → slice_get cells k ≡ Some cell
    → BaselineTo cells cell.row (length cells) p → IsLeastRoom cells cell (room_of cell p)
least_room cells k cell p at to = least_for cells cell cell.baseline p refl to (λ own is. some_baseline cells k cell own p at is to)

pub room_exists : (cells : List RowCell) (k : ℕ) (cell : RowCell) → slice_get cells k ≡ Some cell → (room : ℤ) × IsLeastRoom cells cell room
room_exists cells k cell at = let b = baseline_exists cells cell.row (length cells) (omega arith) in (room_of cell b.0, least_room cells k cell b.0 at b.1)

-- the need of a cell where the row has this baseline
pub is_need : (cells : List RowCell) (n : ℕ) (d : RowCell) (p : Option Unit) (need : Need) → n < length cells
    → BaselineTo cells (get_or cells n d).row (length cells) p → need.row ≡ (get_or cells n d).row → need.span ≡ (get_or cells n d).span
    → need.room ≡ room_of (get_or cells n d) p → IsWithinPower 64 need.room → IsNeed cells (get_or cells n d) need
is_need cells n d p need lt to row span is fits =
    let l = least_room cells n (get_or cells n d) p (slice_get-get_or cells n d lt) to in
    record {
      row = row;
      span = span;
      enough = subst (λ (z : ℤ). IsEnough cells (get_or cells n d) (get_or cells n d).baseline z) (sym is) l.enough;
      least = λ room en. let h = l.least room en in omega (arith, ints, h, is);
      within = fits;
    }

-- what is enough stays so
pub enough_more : (cells : List RowCell) (cell : RowCell) (o : Option Unit) (v w : ℤ) → v ≤ℤ w → IsEnough cells cell o v → IsEnough cells cell o w
enough_more cells cell None v w le enough = omega (arith, ints, le, enough)
enough_more cells cell (Some own) v w le enough = λ b at. let h = enough b at in omega (arith, ints, le, h)

ends_there : (cells : List RowCell) (n row : ℕ) (d : RowCell) (needs : List Need) (need : Need) → n < length cells → need.row + need.span ≡ row + 1
    → IsNeed cells (get_or cells n d) need
    → NeedsTo cells n row needs → NeedsTo cells (n + 1) row (needs ++ need ∷ [])
ends_there cells n row d needs need lt end is to = record {
  each = below_more _ n (λ k less cell at same. old (to.each k less cell at same))
      (λ cell at same. (need, Contains-push needs need, subst (λ (x : RowCell). IsNeed cells x need) (get_or_from_slice_get cells n cell d at) is));
  only = λ other has. from other (Contains-push_cases needs need other has);
}
  where
    old : {cell : RowCell} → ((other : Need) × Contains needs other × IsNeed cells cell other)
        → (other : Need) × Contains (needs ++ need ∷ []) other × IsNeed cells cell other
    old h = (h.0, Contains-append_left needs (need ∷ []) h.0 h.1, h.2)

    from : (other : Need) → (Contains needs other ⊎ (need ≡ other)) → (other.row + other.span ≡ row + 1) × IsOfSome cells other
    from other (inl has) = to.only other has
    from other (inr e) = subst (λ (x : Need). (x.row + x.span ≡ row + 1) × IsOfSome cells x) e (end, (n, get_or cells n d, slice_get-get_or cells n d lt, is))

ends_elsewhere : (cells : List RowCell) (n row : ℕ) (d : RowCell) (needs : List Need) → ((get_or cells n d).row + (get_or cells n d).span ≡ row + 1 → ⊥)
    → NeedsTo cells n row needs → NeedsTo cells (n + 1) row needs
ends_elsewhere cells n row d needs other to = record {
  each = below_more _ n to.each (λ cell at same. absurd
      (other (subst (λ (x : RowCell). x.row + x.span ≡ row + 1) (sym (get_or_from_slice_get cells n cell d at)) same)));
  only = to.only;
}

pub needs_more : (cells : List RowCell) (n rows : ℕ) (d : RowCell) (need : Need) (old new : List (List Need)) → n < length cells → 1 ≤ need.span
    → IsNeed cells (get_or cells n d) need
    → Adds need old new → AllNeedsTo cells n rows old → AllNeedsTo cells (n + 1) rows new
needs_more cells n rows d need old new lt some is adds to = record {
  as_many = adds.as_many ∙ to.as_many;
  each = λ row less. from row less (cases_eq row last);
}
  where
    last : ℕ
    last = last_row need

    end : need.row + need.span ≡ last + 1
    end = omega (arith, some)

    from : (row : ℕ) → row < rows → ((row ≡ last) ⊎ (row ≡ last → ⊥)) → NeedsTo cells (n + 1) row (get_or new row [])
    from row less (inl e) = subst (λ (m : ℕ). NeedsTo cells (n + 1) m (get_or new m [])) (sym e)
        (subst (λ (xs : List Need). NeedsTo cells (n + 1) last xs) (sym adds.here)
        (ends_there cells n last d (get_or old last []) need lt end is (subst (λ (m : ℕ). NeedsTo cells n m (get_or old m [])) e (to.each row less))))
    from row less (inr other) = subst (λ (xs : List Need). NeedsTo cells (n + 1) row xs) (sym (adds.others row other))
        (ends_elsewhere cells n row d (get_or old row []) (λ same. let a = is.row in let b = is.span in other (omega (arith, a, b, same, end)))
        (to.each row less))

-- no cell yet
pub no_needs : (cells : List RowCell) (rows : ℕ) (needs : List (List Need)) → needs ≡ replicate rows [] → AllNeedsTo cells 0 rows needs
no_needs cells rows needs e = record {
  as_many = ap length e ∙ length-replicate rows [];
  each = λ row less. subst (λ (xs : List Need). NeedsTo cells 0 row xs)
      (sym (ap (λ (l : List (List Need)). get_or l row []) e ∙ get_or-replicate rows row [] [] less)) (nothing row);
}
  where
    nothing : (row : ℕ) → NeedsTo cells 0 row []
    nothing row = record { each = λ k less. absurd (omega (arith, less)); only = λ need has. let lt = has.1 in absurd (omega (arith, lt)) }
