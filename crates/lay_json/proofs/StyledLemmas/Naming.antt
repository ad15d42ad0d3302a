-- Names that are given to nodes by their ids, from the last that is listed to the first.
use Rattle.std.proofs.Common.{◌≡◌, ◌∙◌, ℕ, zero, suc, ◌+◌, ◌-◌, ◌<◌, ◌≤◌, ◌⊎◌, inl, inr, List, [], ◌∷◌, length, map, take, drop, replicate, refl, sym, ap, subst, arith, set, IsPermutation}
use Rattle.std.specs.Prelude.{slice_index, slice_index_or, Option, Some, None, option_map, ◌==◌, ◌^◌, min, if◌then◌else◌}
use Rattle.std.proofs.lemmas.Bool.{eq-eqb, ne_eqb, cases_eq}
use Rattle.std.proofs.lemmas.List.{ext_get_or, get_or-set_same, get_or-set_other, get_or-replicate, length-replicate, length-map, get_or-take, length-take, length-take-le}
use Rattle.lay_style.specs.Places.{place_of}
use Rattle.lay_style.proofs.Places.{place_here, place_later, place_none}
use Rattle.lay_doc.specs.declared.node.Node.{Node}
use Rattle.lay_doc.specs.declared.node.NodeId.{NodeId}
use Rattle.lay_doc.specs.Document.{Document, IsDocument, ids_of}
use Rattle.lay_doc.proofs.NodeColumns.{length-ids}
use Rattle.lay_cascade.specs.declared.node_names.names.Names.{Names}
use Rattle.lay_sheet.specs.Sheets.{RuleValue}
use Rattle.lay_cascade.specs.declared.styled.candidates.Candidate.{Candidate}
use Rattle.lay_cascade.specs.Styled.Winners.{restyled}
use Rattle.lay_cascade.specs.Styled.Cascade.{IsCascaded}
use Rattle.lay_cascade.proofs.StyledLemmas.Restyling.{place_at}
use Rattle.lay_run.specs.Runs.{IsListed}
use Rattle.lay_json.specs.Styled.NamesByPlace.{no_names, named_of, names_by_place, IsNamedOne, AreNamed}

some-same : (a b : ℕ) → Some a ≡ Some b → a ≡ b
some-same a b e = cc

-- the first place of a number has it
place_holds : (id : ℕ) (ids : List ℕ) (p : ℕ) → place_of id ids ≡ Some p → slice_index ids p ≡ id
place_holds id [] p e = absurd cc
place_holds id (x ∷ xs) p e = of_cases (λ m q. place_holds id xs m q) (cases_eq x id)
  where
    later : ((m : ℕ) → place_of id xs ≡ Some m → slice_index xs m ≡ id) → (o : Option ℕ) → place_of id xs ≡ o → option_map suc o ≡ Some p → slice_index (x ∷ xs) p ≡ id
    later on None was q = absurd cc
    later on (Some m) was q = subst (λ z. slice_index (x ∷ xs) z ≡ id) (some-same (suc m) p q) (on m was)

    of_cases : ((m : ℕ) → place_of id xs ≡ Some m → slice_index xs m ≡ id) → (x ≡ id) ⊎ (x ≡ id → ⊥) → slice_index (x ∷ xs) p ≡ id
    of_cases on (inl same) = subst (λ z. slice_index (x ∷ xs) z ≡ id) (some-same 0 p (sym (place_here id x xs same) ∙ e)) same
    of_cases on (inr other) = later on (place_of id xs) refl (sym (place_later id x xs other) ∙ e)

module _ (d : Document) (valid : IsDocument d) (id : ℕ) (names : Names) (old : List Names) (count : length old ≡ length d.nodes) where
  apart : (i j : ℕ) → i < j → j < length (ids_of d.nodes) → slice_index (ids_of d.nodes) i ≡ slice_index (ids_of d.nodes) j → ⊥
  apart i j l b e = let n = length-ids d.nodes in valid.ids i j l (omega (arith, b, n)) e

  pub named_found : (p : ℕ) → place_of id (ids_of d.nodes) ≡ Some p → p < length d.nodes → IsNamedOne d.nodes id names old (set old p names)
  named_found p found here = record {
    this = λ k h e. subst (λ z. slice_index_or (set old p names) z no_names ≡ names) (same k h e) (get_or-set_same old p names no_names (omega (arith, here, count)));
    others = λ k h ne. get_or-set_other old p k names no_names (λ q. ne (ap (slice_index (ids_of d.nodes)) q ∙ place_holds id (ids_of d.nodes) p found));
  }
    where
      same : (k : ℕ) → k < length d.nodes → slice_index (ids_of d.nodes) k ≡ id → p ≡ k
      same k h e =
          let n = length-ids d.nodes in
          some-same p k (sym found ∙ ap (λ z. place_of z (ids_of d.nodes)) (sym e) ∙ place_at (ids_of d.nodes) k apart (omega (arith, h, n)))

  pub named_none : place_of id (ids_of d.nodes) ≡ None → IsNamedOne d.nodes id names old old
  named_none none = record {
    this = λ k h e. let n = length-ids d.nodes in absurd (place_none id (ids_of d.nodes) none k (omega (arith, h, n)) e);
    others = λ k h ne. refl;
  }

drop_one : {X : Type 0} (xs : List X) (i : ℕ) (x : X) → i < length xs → x ≡ slice_index_or xs i x → drop i xs ≡ x ∷ drop (i + 1) xs
drop_one [] i x h is = absurd (omega (arith, h))
drop_one (y ∷ ys) zero x h is = ap (λ z. z ∷ ys) (sym is)
drop_one (y ∷ ys) (suc i) x h is = let e : suc (i + 1) ≡ suc i + 1 = omega arith in drop_one ys i x (omega (arith, h)) is ∙ ap (λ z. x ∷ drop z (y ∷ ys)) e

-- one more
pub named_more : (nodes : List Node) (listed : List NodeId) (names old new : List Names) (m i : ℕ) (id : NodeId) (last : Names) → m ≡ i + 1 → i < length listed → i < length names → id ≡ slice_index_or listed i id → last ≡ slice_index_or names i last →
    AreNamed nodes (drop m listed) (drop m names) old → IsNamedOne nodes id.0 last old new → length new ≡ length nodes → AreNamed nodes (drop i listed) (drop i names) new
named_more nodes listed names old new m i id last e h l is_id is_last was one count = record {
  count = count;
  each = λ k b. each k b (cases_eq id.0 (slice_index (ids_of nodes) k));
}
  where
    here : (k : ℕ) → named_of (drop i listed) (drop i names) (slice_index (ids_of nodes) k) ≡ (if id.0 == slice_index (ids_of nodes) k then last else named_of (drop m listed) (drop m names) (slice_index (ids_of nodes) k))
    here k =
        ap (λ z. named_of z (drop i names) (slice_index (ids_of nodes) k)) (drop_one listed i id h is_id ∙ ap (λ z. id ∷ drop z listed) (sym e))
        ∙ ap (λ z. named_of (id ∷ drop m listed) z (slice_index (ids_of nodes) k)) (drop_one names i last l is_last ∙ ap (λ z. last ∷ drop z names) (sym e))

    each : (k : ℕ) → k < length nodes → (id.0 ≡ slice_index (ids_of nodes) k) ⊎ (id.0 ≡ slice_index (ids_of nodes) k → ⊥) → slice_index_or new k no_names ≡ named_of (drop i listed) (drop i names) (slice_index (ids_of nodes) k)
    each k b (inl q) = one.this k b (sym q) ∙ sym (here k ∙ rw (eq-eqb id.0 (slice_index (ids_of nodes) k) q) refl)
    each k b (inr ne) = one.others k b (λ q. ne (sym q)) ∙ was.each k b ∙ sym (here k ∙ rw (ne_eqb id.0 (slice_index (ids_of nodes) k) ne) refl)

pub named_next : (nodes : List Node) (listed : List NodeId) (names old new : List Names) (m i : ℕ) (id : NodeId) (last : Names) → m ≡ i + 1 → i < length (take (length listed) names) → id ≡ slice_index_or listed i id → last ≡ slice_index_or (take (length listed) names) i last →
    AreNamed nodes (drop m listed) (drop m (take (length listed) names)) old → IsNamedOne nodes id.0 last old new → length new ≡ length nodes → AreNamed nodes (drop i listed) (drop i (take (length listed) names)) new
named_next nodes listed names old new m i id last e h is_id is_last was one count =
    let n = length-take (length listed) names in
    named_more nodes listed (take (length listed) names) old new m i id last e (omega (arith, h, n)) h is_id is_last was one count

-- the last of the first names
pub read_last : (names left : List Names) (m i : ℕ) (last : Names) → m ≡ i + 1 → i < length names → left ≡ take m names → last ≡ slice_index_or left (length left - 1) last → last ≡ slice_index_or names i last
read_last names left m i last e h is was =
    let few : m ≤ length names = omega (arith, e, h) in
    let count = ap length is ∙ length-take-le m names few in
    let at : length left - 1 ≡ i = omega (arith, e, count) in
    let l : i < m = omega (arith, e) in
    was ∙ ap (λ z. slice_index_or left z last) at ∙ ap (λ z. slice_index_or z i last) is ∙ get_or-take m names i last l

take_take : (names : List Names) (i m : ℕ) → i ≤ m → take i (take m names) ≡ take i names
take_take names zero m h = refl
take_take names (suc i) zero h = absurd (omega (arith, h))
take_take [] (suc i) (suc m) h = refl
take_take (n ∷ ns) (suc i) (suc m) h = ap (λ z. n ∷ z) (take_take ns i m (omega (arith, h)))

pub take_less : (names left : List Names) (m i : ℕ) → m ≡ i + 1 → i < length names → left ≡ take m names → take (length left - 1) left ≡ take i names
take_less names left m i e h is =
    let few : m ≤ length names = omega (arith, e, h) in
    let count = ap length is ∙ length-take-le m names few in
    let at : length left - 1 ≡ i = omega (arith, e, count) in
    ap (λ z. take z left) at ∙ ap (take i) is ∙ take_take names i m (omega (arith, e))

named_nowhere : (listed : List NodeId) (id : ℕ) → named_of listed [] id ≡ no_names
named_nowhere [] id = refl
named_nowhere (x ∷ xs) id = refl

pub drop_all : {X : Type 0} (xs : List X) (i : ℕ) → length xs ≤ i → drop i xs ≡ []
drop_all [] zero h = refl
drop_all [] (suc i) h = refl
drop_all (x ∷ xs) zero h = absurd (omega (arith, h))
drop_all (x ∷ xs) (suc i) h = drop_all xs i (omega (arith, h))

-- at first none is called
pub named_first : (nodes : List Node) (listed : List NodeId) (names named : List Names) (m : ℕ) → length names ≤ m → named ≡ replicate (length nodes) no_names → AreNamed nodes (drop m listed) (drop m names) named
named_first nodes listed names named m h is = record {
  count = ap length is ∙ length-replicate (length nodes) no_names;
  each = λ k b. ap (λ z. slice_index_or z k no_names) is ∙ get_or-replicate (length nodes) k no_names no_names b
      ∙ sym (ap (λ z. named_of (drop m listed) z (slice_index (ids_of nodes) k)) (drop_all names m h) ∙ named_nowhere (drop m listed) (slice_index (ids_of nodes) k));
}

named_cut : (listed : List NodeId) (names : List Names) (id : ℕ) → named_of listed (take (length listed) names) id ≡ named_of listed names id
named_cut [] names id = refl
named_cut (x ∷ xs) [] id = refl
named_cut (x ∷ xs) (n ∷ ns) id = ap (λ z. if x.0 == id then n else z) (named_cut xs ns id)

named_read : (listed : List NodeId) (names : List Names) (nodes : List Node) (k : ℕ) → k < length nodes → slice_index_or (names_by_place listed names nodes) k no_names ≡ named_of listed names (slice_index (ids_of nodes) k)
named_read listed names [] k h = absurd (omega (arith, h))
named_read listed names (n ∷ ns) zero h = refl
named_read listed names (n ∷ ns) (suc k) h = named_read listed names ns k (omega (arith, h))

pub length_named : (listed : List NodeId) (names : List Names) (nodes : List Node) → length (names_by_place listed names nodes) ≡ length nodes
length_named listed names nodes = length-map nodes (λ n. named_of listed names n.id.0)

-- in the end all are
pub named_all : (nodes : List Node) (listed : List NodeId) (names named : List Names) → AreNamed nodes listed (take (length listed) names) named → named ≡ names_by_place listed names nodes
named_all nodes listed names named are =
    ext_get_or no_names named (names_by_place listed names nodes) (are.count ∙ sym (length_named listed names nodes)) each
  where
    each : (k : ℕ) → k < length named → slice_index_or named k no_names ≡ slice_index_or (names_by_place listed names nodes) k no_names
    each k h =
        let n = are.count in
        let b : k < length nodes = omega (arith, h, n) in
        are.each k b ∙ named_cut listed names (slice_index (ids_of nodes) k) ∙ sym (named_read listed names nodes k b)

-- a styled document has the ids of the one before
ids_restyled : (ws : List (List (Option Candidate))) (nodes : List Node) → ids_of (restyled ws nodes) ≡ ids_of nodes
ids_restyled [] nodes = refl
ids_restyled (w ∷ ws) [] = refl
ids_restyled (w ∷ ws) (n ∷ ns) = ap (λ (r : List ℕ). n.id.0 ∷ r) (ids_restyled ws ns)

pub listed_still : (doc new : Document) (rules : List RuleValue) (names : List Names) (listed : List NodeId) → IsCascaded doc rules names new → IsListed doc listed → IsListed new listed
listed_still doc new rules names listed styled is =
    subst (λ ids. IsPermutation (map (λ (id : NodeId). id.0) listed) ids)
    (sym (ap (λ (z : Document). ids_of z.nodes) styled.is ∙ ids_restyled styled.winners doc.nodes)) is

-- how many selectors there are, where they are counted up to a limit
pub counted_more : (n r : ℕ) → r ≡ min n (2 ^ 64 - 1) → 4096 < r → 4096 < n
counted_more n r is more = omega (arith, is, more)

pub counted_few : (n r : ℕ) → r ≡ min n (2 ^ 64 - 1) → r ≤ 4096 → n ≤ 4096
counted_few n r is few = omega (arith, is, few)

pub some_left : (names left : List Names) (m i : ℕ) → m ≡ i + 1 → i < length names → left ≡ take m names → 0 < length left
some_left names left m i e h is =
    let few : m ≤ length names = omega (arith, e, h) in
    let count = ap length is ∙ length-take-le m names few in
    omega (arith, e, count)
