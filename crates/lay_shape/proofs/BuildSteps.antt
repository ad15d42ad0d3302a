-- What is put together from the front on has one more.
use Rattle.std.proofs.Common.{◌≡◌, ◌≢◌, ℕ, zero, suc, ◌+◌, ◌-◌, ◌<◌, ◌≤◌, ◌==◌, ◌^◌, Bool, true, false, cond, List, [], ◌∷◌, ◌++◌, length, map, filter, flat_map, reverse, take, slice_get, slice_index, slice_index_or, get_or, All, Some, refl, ap, sym, ◌∙◌, arith, append-nil, append_assoc, length-set, slice_set}
use Rattle.std.proofs.lemmas.Bool.{eq-eqb, eqb-true}
use Rattle.std.proofs.lemmas.List.{flat_map_more, get_or-set_other, get_or-set_same, length-map, length-take-le, map-id, map_more, map_push, take_all, take_more}
use Rattle.std.proofs.lemmas.List.Elements.{filter-append, filter_more}
use Rattle.std.proofs.lemmas.List.FromFn.{get_or-map-range_with_len, map-range_with_len_more}
use Rattle.std.proofs.lemmas.Option.{get_or_from_slice_get, none-some, slice_get-get_or, slice_get_within}
use Rattle.lay_units.specs.Limits.{most_nodes}
use Rattle.std.specs.List.{range_with_len}
use Rattle.lay_cells.specs.Shapes.{Entry, IsEachOnce, IsIn}
use Rattle.lay_contexts.specs.Contexts.{AreContexts, Context, context_at}
use Rattle.lay_positioned.specs.Levels.{one_if}
use Rattle.lay_shape.specs.declared.cell_key.CellKey.{CellKey}
use Rattle.lay_shape.specs.declared.context_phase.ContextPhase.{ContextPhase}
use Rattle.lay_shape.specs.Building.{AreByLevel, entries_to, levels_of}
use Rattle.lay_context.specs.declared.task.Phase.{Phase}
use Rattle.lay_context.specs.declared.task.Phase.TheVariants.{Size, Place}
use Rattle.lay_shape.specs.Dependencies.{in_phase, needs_in, needs_of}
use Rattle.lay_shape.specs.Keys.{AreOfOwnNodes, key_of}
use Rattle.lay_shape.specs.Levels.{level_of}
use Rattle.lay_shape.specs.Shapes.{at_level, cells_of, entry_of, round_of}
use Rattle.lay_shape.specs.Ways.{is_absolute, way_of}
use Rattle.lay_shape.proofs.CellOrder.{cell_once, cell_within, cells_few, need_before}
use Rattle.lay_shape.proofs.LevelSteps.{level_few, level_step}
use Rattle.lay_shape.proofs.Members.{from_map, in_map}
use Rattle.lay_shape.proofs.NeedSteps.{needs_once}
use Rattle.lay_shape.proofs.Once.{once_map}
use Rattle.lay_shape.proofs.Turns.{before}
use Rattle.lay_shape.proofs.WaySteps.{in_way_on, on_way_lower}

module _ {X : Type 0} where
  take_in : (k : ℕ) (xs : List X) (j : ℕ) (x : X) → j < k → slice_get xs j ≡ Some x → slice_get (take k xs) j ≡ Some x
  take_in zero xs j x lt e = absurd (omega (arith, lt))
  take_in (suc k) [] j x lt e = absurd (none-some x e)
  take_in (suc k) (y ∷ xs) zero x lt e = e
  take_in (suc k) (y ∷ xs) (suc j) x lt e = take_in k xs j x (omega (arith, lt)) e

  pub from_take : (k : ℕ) (xs : List X) (j : ℕ) (x : X) → slice_get (take k xs) j ≡ Some x → (j < k) × (slice_get xs j ≡ Some x)
  from_take zero xs j x e = absurd (none-some x e)
  from_take (suc k) [] j x e = absurd (none-some x e)
  from_take (suc k) (y ∷ xs) zero x e = (omega arith, e)
  from_take (suc k) (y ∷ xs) (suc j) x e = let r = from_take k xs j x e in let lt = r.0 in (omega (arith, lt), r.1)

module _ {X Y Z : Type 0} (k : Y → Z) (f : X → Y) where
  -- of a filtered list
  pub filtered_more : (p : X → Bool) (xs : List X) (i : ℕ) (d x : X) (front old new : List Z) → i < length xs → x ≡ get_or xs i d → p x ≡ true
      → old ≡ front ++ map k (map f (filter p (take i xs))) → new ≡ old ++ k (f x) ∷ [] → new ≡ front ++ map k (map f (filter p (take (i + 1) xs)))
  filtered_more p xs i d x front old new lt at passes is more =
      let before : List X = filter p (take i xs) in
      let step : filter p (take (i + 1) xs) ≡ before ++ x ∷ [] =
      filter_more p xs i d lt ∙ ap (λ y. before ++ cond (p y) (y ∷ []) []) (sym at) ∙ ap (λ b. before ++ cond b (x ∷ []) []) passes in
      let maps : map k (map f (filter p (take (i + 1) xs))) ≡ map k (map f before) ++ k (f x) ∷ [] =
      ap (λ l. map k (map f l)) step ∙ ap (map k) (map_push f before x) ∙ map_push k (map f before) (f x) in
      more ∙ ap (λ l. l ++ k (f x) ∷ []) is ∙ append_assoc front (map k (map f before)) (k (f x) ∷ []) ∙ ap (λ l. front ++ l) (sym maps)

  pub filtered_same : (p : X → Bool) (xs : List X) (i : ℕ) (d x : X) (front old : List Z) → i < length xs → x ≡ get_or xs i d → p x ≡ false
      → old ≡ front ++ map k (map f (filter p (take i xs))) → old ≡ front ++ map k (map f (filter p (take (i + 1) xs)))
  filtered_same p xs i d x front old lt at fails is =
      let before : List X = filter p (take i xs) in
      let step : filter p (take (i + 1) xs) ≡ before =
      filter_more p xs i d lt ∙ ap (λ y. before ++ cond (p y) (y ∷ []) []) (sym at) ∙ ap (λ b. before ++ cond b (x ∷ []) []) fails ∙ append-nil before in
      is ∙ ap (λ l. front ++ map k (map f l)) (sym step)

module _ {X Y Z : Type 0} (k : Y → Z) (f : X → List Y) where
  map_append : (xs ys : List Y) → map k (xs ++ ys) ≡ map k xs ++ map k ys
  map_append [] ys = refl
  map_append (x ∷ xs) ys = ap (λ l. k x ∷ l) (map_append xs ys)

  pub parts_more : (xs : List X) (i : ℕ) (d x : X) (front old new : List Z) → i < length xs → x ≡ get_or xs i d
      → old ≡ front ++ map k (flat_map f (take i xs)) → new ≡ old ++ map k (f x) → new ≡ front ++ map k (flat_map f (take (i + 1) xs))
  parts_more xs i d x front old new lt at is more =
      let one : take (i + 1) xs ≡ take i xs ++ x ∷ [] = take_more xs i d lt ∙ ap (λ y. take i xs ++ y ∷ []) (sym at) in
      let parts : flat_map f (take (i + 1) xs) ≡ flat_map f (take i xs) ++ f x = ap (flat_map f) one ∙ sym (flat_map_more f [] (take i xs) x) in
      let maps : map k (flat_map f (take (i + 1) xs)) ≡ map k (flat_map f (take i xs)) ++ map k (f x) = ap (map k) parts ∙ map_append (flat_map f (take i xs)) (f x) in
      more ∙ ap (λ l. l ++ map k (f x)) is ∙ append_assoc front (map k (flat_map f (take i xs))) (map k (f x)) ∙ ap (λ l. front ++ l) (sym maps)

module _ {X Y : Type 0} (f : X → Y) where
  pub mapped_more : (xs : List X) (i : ℕ) (d x : X) (front old new : List Y) → i < length xs → x ≡ get_or xs i d
      → old ≡ front ++ map f (take i xs) → new ≡ old ++ f x ∷ [] → new ≡ front ++ map f (take (i + 1) xs)
  mapped_more xs i d x front old new lt at is more =
      let maps : map f (take (i + 1) xs) ≡ map f (take i xs) ++ f x ∷ [] = map_more f xs i d lt ∙ ap (λ y. map f (take i xs) ++ f y ∷ []) (sym at) in
      more ∙ ap (λ l. l ++ f x ∷ []) is ∙ append_assoc front (map f (take i xs)) (f x ∷ []) ∙ ap (λ l. front ++ l) (sym maps)

module _ (contexts : List Context) (are : AreContexts contexts) where
  abbrev n : ℕ
  n = length contexts

  -- the contexts on a way are some of these
  pub way_small : (i : ℕ) → i < n → All (λ j. j < n) (way_of contexts i)
  way_small i within k d lt =
      let on = in_way_on contexts are i (get_or (way_of contexts i) k d) within (k, slice_get-get_or (way_of contexts i) k d lt) in
      let before = (on_way_lower contexts are i (get_or (way_of contexts i) k d) within on).0 in
      omega (arith, before, within)

  pub inner_small : (i k : ℕ) → i < n → k < length (context_at contexts i).inner → slice_index (context_at contexts i).inner k < n
  inner_small i k within lt = by (slice_index (context_at contexts i).inner k) refl
    where
      by : (j : ℕ) → slice_index (context_at contexts i).inner k ≡ j → j < n
      by zero e = omega (arith, within)
      by (suc j) e = are.within i (suc j) within (record { box = k; within = lt; number = e; some = omega arith })

  -- the level of a context, read off those before it
  pub level_read : (i level : ℕ) (levels : List ℕ) → 0 < i → i < n → levels ≡ map (level_of contexts) (range_with_len 0 i)
      → level ≡ slice_index levels (context_at contexts i).outer + one_if (is_absolute contexts i) → level ≡ level_of contexts i
  level_read i level levels some within is e =
      let out = are.outer i some within in
      let read : slice_index levels (context_at contexts i).outer ≡ level_of contexts (context_at contexts i).outer =
      ap (λ l. slice_index l (context_at contexts i).outer) is ∙ get_or-map-range_with_len (level_of contexts) 0 i (context_at contexts i).outer (context_at contexts i).outer 0 out (omega arith) in
      e ∙ ap (λ l. l + one_if (is_absolute contexts i)) read ∙ sym (level_step contexts are i some within)

  pub level_small : (i level : ℕ) (levels : List ℕ) → levels ≡ levels_of contexts → i < n → level ≡ slice_index levels i → (level ≡ level_of contexts i) × (level < n + 1)
  level_small i level levels is within e =
      let read : level ≡ level_of contexts i = e ∙ ap (λ l. slice_index l i) is ∙ get_or-map-range_with_len (level_of contexts) 0 n i i 0 within (omega arith) in
      let few = level_few contexts are i within in
      (read, omega (arith, read, few, within))

  pub level_sum : (i level own : ℕ) (levels : List ℕ) → n ≤ most_nodes → 0 < i → i < n → levels ≡ map (level_of contexts) (range_with_len 0 i)
      → level ≡ slice_index levels (context_at contexts i).outer → own ≤ 1 → level + own ≤ i + 1
  level_sum i level own levels small some within is e few =
      let o = (context_at contexts i).outer in
      let out = are.outer i some within in
      let read : level ≡ level_of contexts o = e ∙ ap (λ l. slice_index l o) is ∙ get_or-map-range_with_len (level_of contexts) 0 i o o 0 out (omega arith) in
      let low = level_few contexts are o (omega (arith, out, within)) in
      omega (arith, read, low, out, few)

  -- no two cells have one key
  pub key_apart : AreOfOwnNodes contexts → (c d : ContextPhase) → c.context < n → d.context < n → key_of contexts c ≡ key_of contexts d → c ≡ d
  key_apart apart c d lc ld e =
      let same : c.context ≡ d.context = apart c.context d.context lc ld (ap (λ (k : CellKey). k.node) e) in
      let phase : c.phase ≡ d.phase = ap (λ (k : CellKey). k.phase) e in
      ap (λ (i : ℕ). in_phase c.phase i) same ∙ ap (λ (p : Phase). in_phase p d.context) phase

  -- what the shape asks of its next entry
  pub record IsNextEntry (k : ℕ) (c : ContextPhase) : Type 0 where
    pub few : length (entries_to contexts k) < 2 ^ 18
    pub fresh : (e : Entry CellKey) → IsIn (entries_to contexts k) e → e.key ≢ key_of contexts c
    pub named : (key : CellKey) → IsIn (needs_of contexts c) key → (e : Entry CellKey) × IsIn (entries_to contexts k) e × (e.key ≡ key)
    pub once : IsEachOnce (needs_of contexts c)

  module _ (small : n ≤ most_nodes) (apart : AreOfOwnNodes contexts) (k : ℕ) (c : ContextPhase) (at : slice_get (cells_of contexts) k ≡ Some c) where
    own : c.context < n
    own = cell_within contexts are c (k, at)

    within : (d : ContextPhase) → IsIn (needs_in contexts c) d → d.context < n
    within d has = (before contexts are c.phase c.context own d has).within

    few_before : length (entries_to contexts k) < 2 ^ 18
    few_before =
        let a = length-map (take k (cells_of contexts)) (entry_of contexts) in
        let b = length-take-le k (cells_of contexts) in
        let lt = slice_get_within (cells_of contexts) k c at in
        let all = cells_few contexts in
        omega (arith, a, b, lt, all, small)

    not_before : (e : Entry CellKey) → IsIn (entries_to contexts k) e → e.key ≢ key_of contexts c
    not_before e has same =
        let r = from_map (entry_of contexts) (take k (cells_of contexts)) e has in
        let place = r.there in
        let there = from_take k (cells_of contexts) place.0 r.x place.1 in
        let key : key_of contexts r.x ≡ key_of contexts c = sym (ap (λ (x : Entry CellKey). x.key) r.is) ∙ same in
        let one = key_apart apart r.x c (cell_within contexts are r.x (place.0, there.1)) own key in
        let twice = cell_once contexts are place.0 k c (there.1 ∙ ap Some one) at in
        let lt = there.0 in
        omega (arith, lt, twice)

    needs_before : (key : CellKey) → IsIn (needs_of contexts c) key → (e : Entry CellKey) × IsIn (entries_to contexts k) e × (e.key ≡ key)
    needs_before key has =
        let r = from_map (key_of contexts) (needs_in contexts c) key has in
        let there = need_before contexts are k c r.x at r.there in
        (entry_of contexts r.x, in_map (entry_of contexts) (take k (cells_of contexts)) r.x (there.0, take_in k (cells_of contexts) there.0 r.x there.1 there.2), sym r.is)

    pub next_entry : IsNextEntry k c
    next_entry = record {
      few = few_before;
      fresh = not_before;
      named = needs_before;
      once = once_map (key_of contexts) (needs_in contexts c) (λ x y a b e. key_apart apart x y (within x a) (within y b) e) (needs_once contexts are c.phase c.context own);
    }

  pub entries_more : (k : ℕ) (c : ContextPhase) → slice_get (cells_of contexts) k ≡ Some c → entries_to contexts (k + 1) ≡ entries_to contexts k ++ entry_of contexts c ∷ []
  entries_more k c at =
      map_more (entry_of contexts) (cells_of contexts) k c (slice_get_within (cells_of contexts) k c at)
      ∙ ap (λ x. entries_to contexts k ++ entry_of contexts x ∷ []) (get_or_from_slice_get (cells_of contexts) k c c at)

  pub entries_all : (k : ℕ) → length (cells_of contexts) ≤ k → entries_to contexts k ≡ map (entry_of contexts) (cells_of contexts)
  entries_all k le = ap (map (entry_of contexts)) (take_all k (cells_of contexts) le)

counting_more : (n : ℕ) → range_with_len 0 (n + 1) ≡ range_with_len 0 n ++ n ∷ []
counting_more n =
    let more = map-range_with_len_more (λ (x : ℕ). x) 0 n n (omega arith) in
    sym (map-id (range_with_len 0 (n + 1))) ∙ more ∙ ap (λ (ks : List ℕ). ks ++ n ∷ []) (map-id (range_with_len 0 n))

pub numbers_more : (n : ℕ) (old new : List ℕ) → old ≡ range_with_len 0 n → new ≡ old ++ n ∷ [] → new ≡ range_with_len 0 (n + 1)
numbers_more n old new is more = more ∙ ap (λ l. l ++ n ∷ []) is ∙ sym (counting_more n)

filter_next : (p : ℕ → Bool) (n : ℕ) → filter p (range_with_len 0 (n + 1)) ≡ filter p (range_with_len 0 n) ++ cond (p n) (n ∷ []) []
filter_next p n = ap (filter p) (counting_more n) ∙ filter-append p (range_with_len 0 n) (n ∷ [])

-- each context goes to the list of its level
pub level_listed : (contexts : List Context) (lists new : List (List ℕ)) (i level : ℕ) (list : List ℕ) → AreByLevel contexts lists i → level ≡ level_of contexts i → level < length contexts + 1
    → list ≡ slice_index_or lists level [] ++ i ∷ [] → new ≡ slice_set lists level list → AreByLevel contexts new (i + 1)
level_listed contexts lists new i level list so_far is within added set =
    record {
      count = ap length set ∙ length-set lists level list ∙ so_far.count;
      each = λ l lt. by l lt (level_of contexts i == l) refl;
    }
  where
    at : (l : ℕ) → slice_index_or new l [] ≡ slice_index_or (slice_set lists level list) l []
    at l = ap (λ (ls : List (List ℕ)). slice_index_or ls l []) set

    by : (l : ℕ) → l < length contexts + 1 → (b : Bool) → (level_of contexts i == l) ≡ b → slice_index_or new l [] ≡ filter (λ j. level_of contexts j == l) (range_with_len 0 (i + 1))
    by l lt true e =
        let same : level ≡ l = is ∙ eqb-true (level_of contexts i) l e in
        let here : slice_index_or (slice_set lists level list) level [] ≡ list = get_or-set_same lists level list [] (omega (arith, within, so_far.count)) in
        at l ∙ ap (λ (k : ℕ). slice_index_or (slice_set lists level list) k []) (sym same) ∙ here ∙ added ∙ ap (λ (k : ℕ). slice_index_or lists k [] ++ i ∷ []) same
        ∙ ap (λ (xs : List ℕ). xs ++ i ∷ []) (so_far.each l lt)
        ∙ sym (filter_next (λ j. level_of contexts j == l) i ∙ ap (λ (b : Bool). filter (λ j. level_of contexts j == l) (range_with_len 0 i) ++ cond b (i ∷ []) []) e)
    by l lt false e =
        let other : l ≡ level → ⊥ = λ same. (let yes = eq-eqb (level_of contexts i) l (sym is ∙ sym same) in let never : true ≡ false = sym yes ∙ e in cc) in
        at l ∙ get_or-set_other lists level l list [] other ∙ so_far.each l lt
        ∙ sym (filter_next (λ j. level_of contexts j == l) i ∙ ap (λ (b : Bool). filter (λ j. level_of contexts j == l) (range_with_len 0 i) ++ cond b (i ∷ []) []) e ∙ append-nil (filter (λ j. level_of contexts j == l) (range_with_len 0 i)))

pub none_by_level : (contexts : List Context) (lists : List (List ℕ)) → length lists ≡ length contexts + 1 → ((k : ℕ) → slice_index_or lists k [] ≡ []) → AreByLevel contexts lists 0
none_by_level contexts lists count none = record { count = count; each = λ l lt. none l }

-- a level more
pub round_more : (contexts : List Context) (l : ℕ) (front old sized new : List ContextPhase) (list : List ℕ) → list ≡ at_level contexts l → old ≡ front ++ flat_map (round_of contexts) (range_with_len 0 l)
    → sized ≡ old ++ map (in_phase Size) list → new ≡ sized ++ map (in_phase Place) (reverse list) → new ≡ front ++ flat_map (round_of contexts) (range_with_len 0 (l + 1))
round_more contexts l front old sized new list is so_far up down =
    let so : List ContextPhase = flat_map (round_of contexts) (range_with_len 0 l) in
    let sizes : List ContextPhase = map (in_phase Size) (at_level contexts l) in
    let places : List ContextPhase = map (in_phase Place) (reverse (at_level contexts l)) in
    let both : new ≡ (old ++ sizes) ++ places = down ∙ ap (λ xs. xs ++ map (in_phase Place) (reverse list)) up ∙ ap (λ xs. (old ++ map (in_phase Size) xs) ++ map (in_phase Place) (reverse xs)) is in
    let next : flat_map (round_of contexts) (range_with_len 0 (l + 1)) ≡ so ++ (sizes ++ places) = ap (flat_map (round_of contexts)) (counting_more l) ∙ sym (flat_map_more (round_of contexts) [] (range_with_len 0 l) l) in
    both ∙ append_assoc old sizes places ∙ ap (λ xs. xs ++ (sizes ++ places)) so_far ∙ append_assoc front so (sizes ++ places) ∙ ap (λ xs. front ++ xs) (sym next)
