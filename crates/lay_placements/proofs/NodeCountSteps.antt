-- Counts of nodes, read and written in a table and a map.
use Rattle.std.proofs.Common.{◌≡◌, ◌≢◌, ◌∙◌, ℕ, zero, suc, ap, sym, refl, ◌+◌, ◌<◌, ◌≤◌, ◌==◌, Bool, true, false, List, [], ◌∷◌, length, replicate, slice_index_or, slice_set, if◌then◌else◌, arith}
use Rattle.std.specs.BTreeMap.{BTreeMap, btree_map_len, is_at}
use Rattle.std.specs.Map.{lookup}
use Rattle.std.specs.Option.{unwrap_or}
use Rattle.std.specs.Ordering.{nat_cmp}
use Rattle.std.proofs.lemmas.Bool.{eq-eqb, ne_eqb}
use Rattle.lay_placements.specs.declared.node_counts.Counts.{Counts}
use Rattle.lay_placements.specs.PieceCounts.{counted_apart, counts_in, no_counts}

module _ (map : BTreeMap ℕ Counts) where
  pub in_table : (first : ℕ) (table : List Counts) (place id : ℕ) (d : Counts) → first + place ≡ id → place < length table → counts_in first table map id ≡ slice_index_or table place d
  in_table first [] place id d is lt = absurd (omega (arith, lt))
  in_table first (counts ∷ table) zero id d is lt =
      ap (λ (b : Bool). if b then counts else counts_in (suc first) table map id) (eq-eqb first id (omega (arith, is)))
  in_table first (counts ∷ table) (suc place) id d is lt =
      ap (λ (b : Bool). if b then counts else counts_in (suc first) table map id) (ne_eqb first id (λ same. omega (arith, is, same)))
      ∙ in_table (suc first) table place id d (omega (arith, is)) (omega (arith, lt))

  pub outside : (first : ℕ) (table : List Counts) (id : ℕ) → ((place : ℕ) → first + place ≡ id → length table ≤ place) → counts_in first table map id ≡ counted_apart map id
  outside first [] id out = refl
  outside first (counts ∷ table) id out =
      ap (λ (b : Bool). if b then counts else counts_in (suc first) table map id)
      (ne_eqb first id (λ same. let none : length (counts ∷ table) ≤ 0 = out 0 (omega (arith, same)) in omega (arith, none)))
      ∙ outside (suc first) table id (λ place is. let far : length (counts ∷ table) ≤ suc place = out (suc place) (omega (arith, is)) in omega (arith, far))

  pub set_here : (first : ℕ) (table : List Counts) (place id : ℕ) (v : Counts) → first + place ≡ id → place < length table → counts_in first (slice_set table place v) map id ≡ v
  set_here first [] place id v is lt = absurd (omega (arith, lt))
  set_here first (counts ∷ table) zero id v is lt =
      ap (λ (b : Bool). if b then v else counts_in (suc first) table map id) (eq-eqb first id (omega (arith, is)))
  set_here first (counts ∷ table) (suc place) id v is lt =
      ap (λ (b : Bool). if b then counts else counts_in (suc first) (slice_set table place v) map id) (ne_eqb first id (λ same. omega (arith, is, same)))
      ∙ set_here (suc first) table place id v (omega (arith, is)) (omega (arith, lt))

  pub set_other : (first : ℕ) (table : List Counts) (place id other : ℕ) (v : Counts) → first + place ≡ id → other ≢ id → counts_in first (slice_set table place v) map other ≡ counts_in first table map other
  set_other first [] place id other v is apart = refl
  set_other first (counts ∷ table) zero id other v is apart =
      let not : (first == other) ≡ false = ne_eqb first other (λ same. apart (omega (arith, is, same))) in
      ap (λ (b : Bool). if b then v else counts_in (suc first) table map other) not
      ∙ sym (ap (λ (b : Bool). if b then counts else counts_in (suc first) table map other) not)
  set_other first (counts ∷ table) (suc place) id other v is apart =
      ap (λ (rest : Counts). if first == other then counts else rest) (set_other (suc first) table place id other v (omega (arith, is)) apart)

-- maps that say the same of a node
pub same_apart : (old new : BTreeMap ℕ Counts) (first : ℕ) (table : List Counts) (id : ℕ) → counted_apart new id ≡ counted_apart old id → counts_in first table new id ≡ counts_in first table old id
same_apart old new first [] id same = same
same_apart old new first (counts ∷ table) id same =
    ap (λ (rest : Counts). if first == id then counts else rest) (same_apart old new (suc first) table id same)

-- nothing is counted
none_listed : (entries : List (ℕ × Counts)) → length entries ≡ 0 → entries ≡ []
none_listed [] none = refl
none_listed (e ∷ entries) none = absurd (omega (arith, none))

pub none_apart : (map : BTreeMap ℕ Counts) (id : ℕ) → btree_map_len map ≡ 0 → counted_apart map id ≡ no_counts
none_apart map id none = ap (λ (entries : List (ℕ × Counts)). unwrap_or (lookup (is_at (nat_cmp id)) entries) no_counts) (none_listed map.entries none)

either : (b : Bool) (rest : Counts) → rest ≡ no_counts → (if b then no_counts else rest) ≡ no_counts
either true rest none = refl
either false rest none = none

pub blank : (span first : ℕ) (map : BTreeMap ℕ Counts) (id : ℕ) → counted_apart map id ≡ no_counts → counts_in first (replicate span no_counts) map id ≡ no_counts
blank zero first map id none = none
blank (suc span) first map id none = either (first == id) _ (blank span (suc first) map id none)
