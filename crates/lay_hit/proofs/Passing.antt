-- The walk from the last node to the first: what waits at each node stays true as it comes to one node more.
use Rattle.std.proofs.Common.{◌≡◌, ℕ, ◌+◌, ◌<◌, ◌≤◌, Bool, true, false, not, ◌&&◌, ◌||◌, List, length, slice_index_or, set, replicate, refl, sym, ap, ◌∙◌, subst, arith, ◌⊎◌, inl, inr, Option, None, if◌then◌else◌}
use Rattle.std.proofs.lemmas.Bool.{cases_eq, cases_Bool, and_from, and_parts, not-true, lt-ltb, ltb-true, eqb-true, or_right, or_left, not_from_false}
use Rattle.std.proofs.lemmas.List.{get_or-replicate, get_or-set_same, get_or-set_other, length-replicate, length-set}
use Rattle.std.specs.Prelude.{◌==◌, is_some, nat_lt}
use Rattle.lay_doc.specs.Document.{IsDocument}
use Rattle.lay_frag.specs.declared.frag.Frag.{Frag}
use Rattle.lay_frag.specs.Pieces.{frags_of}
use Rattle.lay_hit.specs.declared.kinds.PaintKind.{PaintKind}
use Rattle.lay_hit.specs.declared.question.Question.{Question}
use Rattle.lay_hit.specs.declared.waiting.Waiting.{Waiting}
use Rattle.lay_hit.specs.PaintKinds.{forms_group, is_stacking, kind_at}
use Rattle.lay_hit.specs.Hits.{holds, last_holding}
use Rattle.lay_hit.specs.Pages.{Page}
use Rattle.lay_hit.specs.Painting.{group, owner}
use Rattle.lay_hit.specs.Ranks.{is_of_owner, painter_at}
use Rattle.lay_hit.specs.Wholes.{own_pieces}
use Rattle.lay_hit.specs.OrderedPages.{IsOrdered}
use Rattle.lay_hit.specs.Questions.{AreNoted, page, seen_in}
use Rattle.lay_hit.specs.Fronts.{IsFrontmost, front_from, front_in, in_front, is_behind, passed}
use Rattle.lay_hit.specs.Waiting.{AreWaiting, Waits, ends_group, ends_owner, nobody, of_group, of_owner, passed_on}
use Rattle.lay_hit.proofs.Frontmost.{also, none, joined}
use Rattle.lay_hit.proofs.Ways.{way_ends, way_waits}
use Rattle.lay_hit.proofs.WaitSteps.{no_both, same_there, comes_there, nothing_comes, none_yet, within_page}
use Rattle.lay_hit.proofs.PaintedBy.{painter-forms, painter-before, owner-stacks}
use Rattle.lay_hit.proofs.FrontSteps.{page_ordered, Mine, frontmost_is, seen_either}

-- who paints a node
by_owner : (p : Page) (k : ℕ) → is_of_owner (p.kind k) ≡ true → painter_at p k ≡ owner p k
by_owner p k e = ap (λ (b : Bool). if b then owner p k else group p k) e

by_group : (p : Page) (k : ℕ) → is_of_owner (p.kind k) ≡ false → painter_at p k ≡ group p k
by_group p k e = ap (λ (b : Bool). if b then owner p k else group p k) e

-- what is in front of two nodes of a page is one of it
pub in_front_within : (p : Page) (n j k : ℕ) → j < n → k < n → in_front p j k < n
in_front_within p n j k low also_low = by_tests (j == 0) (k == 0) (is_behind p j k)
  where
    by_tests : (a b c : Bool) → (if a then k else (if b then j else (if c then k else j))) < n
    by_tests true b c = also_low
    by_tests false true c = low
    by_tests false false true = also_low
    by_tests false false false = low

pub passed_within : (p : Page) (n : ℕ) (ends : Bool) (inner : ℕ) (counts : Bool) (k : ℕ) → inner < n → k < n → passed p ends inner counts k < n
passed_within p n ends inner counts k low also_low = in_front_within p n (if ends then 0 else inner) (if counts then k else 0) (by_end ends) (by_count counts)
  where
    by_end : (b : Bool) → (if b then 0 else inner) < n
    by_end true = omega (arith, low)
    by_end false = low

    by_count : (b : Bool) → (if b then k else 0) < n
    by_count true = also_low
    by_count false = omega (arith, low)

module _ (q : Question) (is : IsDocument q.doc.now) where
  abbrev nodes : ℕ
  nodes = length q.doc.now.nodes

  abbrev kind : ℕ → PaintKind
  kind k = kind_at q.doc.now.nodes q.styles.now k

  abbrev at_point : Frag → Bool
  at_point f = holds q.at.x.0 q.at.y.0 f

  ordered : IsOrdered (page q)
  ordered = page_ordered q is

  group_root : ends_group q 0 ≡ true
  group_root = ap forms_group ordered.root

  owner_root : ends_owner q 0 ≡ true
  owner_root = ap is_stacking ordered.root

  pub first_waiting : AreWaiting q (replicate nodes nobody) nodes
  first_waiting = record {
    count = length-replicate nodes nobody;
    group = λ g low stands. subst (λ (w : Waiting). IsFrontmost (page q) (Waits (page q) (of_group q) (ends_group q) nodes g) w.group) (sym (get_or-replicate nodes g nobody nobody low))
        (none_yet (page q) ordered (of_group q) (ends_group q) group_root nodes g (omega arith));
    owner = λ g low stands. subst (λ (w : Waiting). IsFrontmost (page q) (Waits (page q) (of_owner q) (ends_owner q) nodes g) w.owner) (sym (get_or-replicate nodes g nobody nobody low))
        (none_yet (page q) ordered (of_owner q) (ends_owner q) owner_root nodes g (omega arith));
  }

  -- The frontmost that a node paints, once the walk has come past it.
  module _ (fronts : List Waiting) (n g : ℕ) (some : 0 < n) (walked : n ≤ g + 1) (low : g < nodes) (waiting : AreWaiting q fronts n) where
    abbrev there : Waiting
    there = slice_index_or fronts g nobody

    abbrev mine : ℕ → Type 0
    mine k = Mine (page q) ordered at_point 1 g k

    abbrev for_group : ℕ → Type 0
    for_group k = Waits (page q) (of_group q) (ends_group q) n g k

    abbrev for_owner : ℕ → Type 0
    for_owner k = Waits (page q) (of_owner q) (ends_owner q) n g k

    behind : (k : ℕ) → mine k → n ≤ k
    behind k m = let b = painter-before (page q) ordered k (let l = m.walked in omega (arith, l)) in let e = m.painter in omega (arith, b, e, walked)

    from_group : ends_group q g ≡ true → (k : ℕ) → for_group k → mine k
    from_group end k w =
        let parts = and_parts (is_some (seen_in q k)) (not (is_of_owner (kind k))) w.counted in
        record {
          walked = (let l = w.walked in omega (arith, l, some));
          within = w.within;
          painter = by_group (page q) k (not-true (is_of_owner (kind k)) parts.1) ∙ way_ends (ends_group q) (page q).parent group_root ordered.before n g k end w.place;
          counted = parts.0;
        }

    from_owner : ends_owner q g ≡ true → (k : ℕ) → for_owner k → mine k
    from_owner end k w =
        let parts = and_parts (is_some (seen_in q k)) (is_of_owner (kind k)) w.counted in
        record {
          walked = (let l = w.walked in omega (arith, l, some));
          within = w.within;
          painter = by_owner (page q) k parts.1 ∙ way_ends (ends_owner q) (page q).parent owner_root ordered.before n g k end w.place;
          counted = parts.0;
        }

    to_group : (k : ℕ) → mine k → is_of_owner (kind k) ≡ false → for_group k
    to_group k m e = record {
      walked = behind k m;
      within = m.within;
      counted = and_from (is_some (seen_in q k)) (not (is_of_owner (kind k))) m.counted (not_from_false (is_of_owner (kind k)) e);
      place = way_waits (ends_group q) (page q).parent group_root ordered.before n g k walked (sym (by_group (page q) k e) ∙ m.painter);
    }

    to_owner : (k : ℕ) → mine k → is_of_owner (kind k) ≡ true → for_owner k
    to_owner k m e = record {
      walked = behind k m;
      within = m.within;
      counted = and_from (is_some (seen_in q k)) (is_of_owner (kind k)) m.counted e;
      place = way_waits (ends_owner q) (page q).parent owner_root ordered.before n g k walked (sym (by_owner (page q) k e) ∙ m.painter);
    }

    of_plain : ends_group q g ≡ false → IsFrontmost (page q) mine 0
    of_plain off = none (page q) mine (λ k m. no_both (sym (ap (ends_group q) m.painter) ∙ painter-forms (page q) ordered k) off)

    of_a_group : ends_group q g ≡ true → ends_owner q g ≡ false → IsFrontmost (page q) mine there.group
    of_a_group end off = also (page q) for_group mine there.group (from_group end) back (waiting.group g low (or_right (nat_lt g n) (ends_group q g) end))
      where
        back : (k : ℕ) → mine k → for_group k
        back k m = elim (cases_Bool (is_of_owner (kind k))) [
          | inl owned ↦ absurd (no_both (sym (ap (ends_owner q) (sym (by_owner (page q) k owned) ∙ m.painter)) ∙ owner-stacks (page q) ordered k) off)
          | inr plain ↦ to_group k m plain
        ]

    of_both : ends_group q g ≡ true → ends_owner q g ≡ true → IsFrontmost (page q) mine (in_front (page q) there.group there.owner)
    of_both end also_end = joined (page q) for_group for_owner mine there.group there.owner
        (waiting.group g low (or_right (nat_lt g n) (ends_group q g) end)) (waiting.owner g low (or_right (nat_lt g n) (ends_owner q g) also_end))
        apart (from_group end) (from_owner also_end)
      where
        apart : (k : ℕ) → mine k → for_group k ⊎ for_owner k
        apart k m = elim (cases_Bool (is_of_owner (kind k))) [
          | inl owned ↦ inr (to_owner k m owned)
          | inr plain ↦ inl (to_group k m plain)
        ]

    pub front_is : front_in (page q) (kind g) there ≡ front_from q 1 g
    front_is = frontmost_is (page q) ordered at_point g (front_in (page q) (kind g) there) (by_group_end (ends_group q g) refl)
      where
        by_owner_end : ends_group q g ≡ true → (b : Bool) → ends_owner q g ≡ b → IsFrontmost (page q) mine (if b then in_front (page q) there.group there.owner else there.group)
        by_owner_end end true also_end = of_both end also_end
        by_owner_end end false off = of_a_group end off

        by_group_end : (b : Bool) → ends_group q g ≡ b → IsFrontmost (page q) mine (if b then (if ends_owner q g then in_front (page q) there.group there.owner else there.group) else 0)
        by_group_end true end = by_owner_end end (ends_owner q g) refl
        by_group_end false off = of_plain off

    pub group_within : ends_group q g ≡ true → there.group < nodes
    group_within end = within_page (page q) ordered (of_group q) (ends_group q) group_root n g there.group (waiting.group g low (or_right (nat_lt g n) (ends_group q g) end))

    pub owner_within : ends_owner q g ≡ true → there.owner < nodes
    owner_within end = within_page (page q) ordered (of_owner q) (ends_owner q) owner_root n g there.owner (waiting.owner g low (or_right (nat_lt g n) (ends_owner q g) end))

  -- One node more.
  module _ (fronts : List Waiting) (n : ℕ) (some : 0 < n) (within : n < nodes) (before : AreWaiting q fronts (n + 1)) where
    abbrev parent : ℕ
    parent = (page q).parent n

    abbrev here : Waiting
    here = slice_index_or fronts n nobody

    abbrev outer : Waiting
    outer = slice_index_or fronts parent nobody

    pub parent_low : parent < n
    parent_low = ordered.before n some

    pub parent_in : parent < nodes
    parent_in = let l = parent_low in omega (arith, l, within)

    here_stands : (ends : ℕ → Bool) → (nat_lt n (n + 1) || ends n) ≡ true
    here_stands ends = or_left (nat_lt n (n + 1)) (ends n) (lt-ltb n (n + 1) (omega arith))

    outer_stands : (ends : ℕ → Bool) → (nat_lt parent (n + 1) || ends parent) ≡ true
    outer_stands ends = or_left (nat_lt parent (n + 1)) (ends parent) (lt-ltb parent (n + 1) (let l = parent_low in omega (arith, l)))

    pub here_group_within : here.group < nodes
    here_group_within = within_page (page q) ordered (of_group q) (ends_group q) group_root (n + 1) n here.group (before.group n within (here_stands (ends_group q)))

    pub here_owner_within : here.owner < nodes
    here_owner_within = within_page (page q) ordered (of_owner q) (ends_owner q) owner_root (n + 1) n here.owner (before.owner n within (here_stands (ends_owner q)))

    pub outer_group_within : outer.group < nodes
    outer_group_within = within_page (page q) ordered (of_group q) (ends_group q) group_root (n + 1) parent outer.group (before.group parent parent_in (outer_stands (ends_group q)))

    pub outer_owner_within : outer.owner < nodes
    outer_owner_within = within_page (page q) ordered (of_owner q) (ends_owner q) owner_root (n + 1) parent outer.owner (before.owner parent parent_in (outer_stands (ends_owner q)))

    -- whether a piece is seen in the node
    module _ (noted : List (Option Frag)) (kept : AreNoted q (frags_of q.tree.now) noted) where
      pub seen_is : (is_some (slice_index_or noted n None) || not (front_in (page q) (kind n) here == 0)) ≡ is_some (seen_in q n)
      seen_is =
          ap (λ (o : Option Frag). is_some o || not (front_in (page q) (kind n) here == 0)) (kept.each n within)
          ∙ ap (λ (f : ℕ). is_some (last_holding q.at.x.0 q.at.y.0 (own_pieces (page q) n)) || not (f == 0)) (front_is fronts (n + 1) n (omega arith) (omega arith) within before)
          ∙ sym (seen_either (page q) ordered at_point n within)

    -- how the two lists of places change
    module _ (place : Waiting → ℕ) (counts ends : ℕ → Bool) (root : ends 0 ≡ true) (each : (g : ℕ) → g < nodes → (nat_lt g (n + 1) || ends g) ≡ true → IsFrontmost (page q) (Waits (page q) counts ends (n + 1) g) (place (slice_index_or fronts g nobody))) where
      stood : (g : ℕ) → (nat_lt g n || ends g) ≡ true → (nat_lt g (n + 1) || ends g) ≡ true
      stood g stands = by_low (nat_lt g n) refl stands
        where
          by_low : (b : Bool) → nat_lt g n ≡ b → (b || ends g) ≡ true → (nat_lt g (n + 1) || ends g) ≡ true
          by_low true is e = or_left (nat_lt g (n + 1)) (ends g) (lt-ltb g (n + 1) (let l = ltb-true g n is in omega (arith, l)))
          by_low false is e = or_right (nat_lt g (n + 1)) (ends g) e

      pub passed_to : (after : List Waiting) (v : Waiting) → after ≡ set fronts parent v → place v ≡ in_front (page q) (place outer) (passed (page q) (ends n) (place here) (counts n) n)
          → (g : ℕ) → g < nodes → (nat_lt g n || ends g) ≡ true → IsFrontmost (page q) (Waits (page q) counts ends n g) (place (slice_index_or after g nobody))
      passed_to after v is_set value g low stands = elim (cases_eq parent g) [
        | inl same ↦ subst (λ (j : ℕ). IsFrontmost (page q) (Waits (page q) counts ends n j) (place (slice_index_or after j nobody))) same
            (subst (IsFrontmost (page q) (Waits (page q) counts ends n parent)) (sym (ap place at_parent ∙ value))
            (comes_there (page q) ordered counts ends root n some within (place outer) (place here) (each parent parent_in (outer_stands ends)) (each n within (here_stands ends))))
        | inr other ↦ subst (λ (w : Waiting). IsFrontmost (page q) (Waits (page q) counts ends n g) (place w)) (sym (elsewhere other))
            (same_there (page q) ordered counts ends root n some within g other stands (place (slice_index_or fronts g nobody)) (each g low (stood g stands)))
      ]
        where
          at_parent : slice_index_or after parent nobody ≡ v
          at_parent = ap (λ (ws : List Waiting). slice_index_or ws parent nobody) is_set ∙ get_or-set_same fronts parent v nobody (let e = before.count in let w = parent_in in omega (arith, e, w))

          elsewhere : (parent ≡ g → ⊥) → slice_index_or after g nobody ≡ slice_index_or fronts g nobody
          elsewhere other = ap (λ (ws : List Waiting). slice_index_or ws g nobody) is_set ∙ get_or-set_other fronts parent g v nobody (λ e. other (sym e))

      pub passed_over : counts n ≡ false → place here ≡ 0 → (g : ℕ) → g < nodes → (nat_lt g n || ends g) ≡ true → IsFrontmost (page q) (Waits (page q) counts ends n g) (place (slice_index_or fronts g nobody))
      passed_over off plain g low stands = elim (cases_eq parent g) [
        | inl same ↦ subst (λ (j : ℕ). IsFrontmost (page q) (Waits (page q) counts ends n j) (place (slice_index_or fronts j nobody))) same
            (nothing_comes (page q) ordered counts ends root n some within (place outer) off (each parent parent_in (outer_stands ends))
            (subst (IsFrontmost (page q) (Waits (page q) counts ends (n + 1) n)) plain (each n within (here_stands ends))))
        | inr other ↦ same_there (page q) ordered counts ends root n some within g other stands (place (slice_index_or fronts g nobody)) (each g low (stood g stands))
      ]

    -- the node passes on what waits
    pub passes : (after : List Waiting) → after ≡ set fronts parent (passed_on q fronts n) → AreWaiting q after n
    passes after is_set = record {
      count = ap length is_set ∙ length-set fronts parent (passed_on q fronts n) ∙ before.count;
      group = passed_to (λ w. w.group) (of_group q) (ends_group q) group_root before.group after (passed_on q fronts n) is_set refl;
      owner = passed_to (λ w. w.owner) (of_owner q) (ends_owner q) owner_root before.owner after (passed_on q fronts n) is_set refl;
    }

    -- or has nothing to pass on
    pub passes_nothing : is_some (seen_in q n) ≡ false → here.group ≡ 0 → here.owner ≡ 0 → AreWaiting q fronts n
    passes_nothing blank no_group no_owner = record {
      count = before.count;
      group = passed_over (λ w. w.group) (of_group q) (ends_group q) group_root before.group (ap (λ (b : Bool). b && not (is_of_owner (kind n))) blank) no_group;
      owner = passed_over (λ w. w.owner) (of_owner q) (ends_owner q) owner_root before.owner (ap (λ (b : Bool). b && is_of_owner (kind n)) blank) no_owner;
    }

    module _ (noted : List (Option Frag)) (kept : AreNoted q (frags_of q.tree.now) noted) where
      -- where no piece of the node is noted and nothing waits there, none is seen
      pub passed_by : (is_some (slice_index_or noted n None) || (not (here.group == 0) || not (here.owner == 0))) ≡ false → AreWaiting q fronts n
      passed_by e = by_tests (is_some (slice_index_or noted n None)) (here.group == 0) (here.owner == 0) refl refl refl e
        where
          front_none : (k : PaintKind) (w : Waiting) → w.group ≡ 0 → w.owner ≡ 0 → front_in (page q) k w ≡ 0
          front_none k w plain also_plain = ap (λ (f : ℕ). if forms_group k then (if is_stacking k then in_front (page q) f w.owner else f) else 0) plain
              ∙ ap (λ (f : ℕ). if forms_group k then (if is_stacking k then in_front (page q) 0 f else 0) else 0) also_plain ∙ zeros (forms_group k) (is_stacking k)
            where
              zeros : (b c : Bool) → ◌≡◌ {A = ℕ} (if b then (if c then in_front (page q) 0 0 else 0) else 0) 0
              zeros true true = refl
              zeros true false = refl
              zeros false c = refl

          by_tests : (a b c : Bool) → is_some (slice_index_or noted n None) ≡ a → (here.group == 0) ≡ b → (here.owner == 0) ≡ c → (a || (not b || not c)) ≡ false → AreWaiting q fronts n
          by_tests true b c h i j f = absurd cc
          by_tests false false c h i j f = absurd cc
          by_tests false true false h i j f = absurd cc
          by_tests false true true h i j f =
              let plain = eqb-true here.group 0 i in
              let also_plain = eqb-true here.owner 0 j in
              passes_nothing (sym (seen_is noted kept) ∙ ap (λ (b : Bool). b || not (front_in (page q) (kind n) here == 0)) h ∙ ap (λ (f : ℕ). not (f == 0)) (front_none (kind n) here plain also_plain)) plain also_plain
