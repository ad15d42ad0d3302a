-- Nodes that take declarations one after the other.
use Rattle.std.proofs.Common.{◌≡◌, ◌∙◌, ℕ, zero, suc, ◌+◌, ◌<◌, ◌≤◌, ◌⊎◌, inl, inr, List, [], ◌∷◌, ◌++◌, true, false, length, drop, replicate, refl, sym, ap, subst, arith, length-append}
use Rattle.std.specs.Prelude.{slice_index, slice_index_or, Option, Some, None, is_some, is_none, option_map, not, ◌||◌}
use Rattle.std.proofs.lemmas.Bool.{false≢true, cases_lt}
use Rattle.std.proofs.lemmas.List.{get_or_append_left, get_or_push, length-replicate, get_or-replicate}
use Rattle.lay_style.specs.declared.property.Property.{Property}
use Rattle.lay_style.specs.declared.property.Given.{Given}
use Rattle.lay_style.specs.Values.{Declaration}
use Rattle.lay_style.specs.PropertyNumbers.{number_of}
use Rattle.lay_style.specs.Declarations.{declared_value}
use Rattle.lay_style.specs.Places.{place_of}
use Rattle.lay_style.proofs.Places.{place_here, place_later}
use Rattle.lay_doc.specs.declared.node.Node.{Node}
use Rattle.lay_doc.specs.Document.{Document, IsDocument, ids_of, is_text_at}
use Rattle.lay_doc.specs.Changes.{style_fault, with_style, changed_at, after_change}
use Rattle.lay_doc.proofs.NodeColumns.{length-ids}
use Rattle.lay_cascade.specs.declared.node_names.names.Names.{Names}
use Rattle.lay_sheet.specs.Sheets.{RuleValue}
use Rattle.lay_cascade.specs.declared.styled.candidates.Candidate.{Candidate}
use Rattle.lay_cascade.specs.Styled.Winners.{with_winners, restyled}
use Rattle.lay_cascade.specs.Styled.Cascade.{AreWinners, AreAllWinners, IsCascaded}
use Rattle.lay_cascade.specs.Styled.Taken.{declares_at, takes_one, takes, IsCascadedTo}
use Rattle.lay_cascade.proofs.StyledLemmas.Numbers.{number_below}

-- what stands at a place
pub declares_read : (nodes : List Node) (k : ℕ) (n : Node) (p : Property) → k < length nodes → is_some (declared_value p (slice_index_or nodes k n).decls) ≡ declares_at nodes k p
declares_read [] k n p h = absurd (omega (arith, h))
declares_read (m ∷ ns) zero n p h = refl
declares_read (m ∷ ns) (suc k) n p h = declares_read ns k n p (omega (arith, h))

pub id_read : (nodes : List Node) (k : ℕ) (n : Node) → k < length nodes → (slice_index_or nodes k n).id.0 ≡ slice_index (ids_of nodes) k
id_read [] k n h = absurd (omega (arith, h))
id_read (m ∷ ns) zero n h = refl
id_read (m ∷ ns) (suc k) n h = id_read ns k n (omega (arith, h))

-- where all differ, each stands at the first place that it has
pub place_at : (ids : List ℕ) (k : ℕ) → ((i j : ℕ) → i < j → j < length ids → slice_index ids i ≡ slice_index ids j → ⊥) → k < length ids → place_of (slice_index ids k) ids ≡ Some k
place_at [] k apart h = absurd (omega (arith, h))
place_at (x ∷ xs) zero apart h = place_here x x xs refl
place_at (x ∷ xs) (suc k) apart h =
    place_later (slice_index xs k) x xs (λ e. apart 0 (suc k) (omega arith) h e)
    ∙ ap (option_map suc) (place_at xs k (λ i j l b e. apart (suc i) (suc j) (omega (arith, l)) (omega (arith, b)) e) (omega (arith, h)))

-- a change of the declarations of a node that isn't a text has no fault, and changes that node
module _ (d : Document) (k id : ℕ) (valid : IsDocument d) (here : k < length d.nodes) (is : id ≡ slice_index (ids_of d.nodes) k) where
  place_is : place_of id (ids_of d.nodes) ≡ Some k
  place_is =
      let n = length-ids d.nodes in
      ap (λ z. place_of z (ids_of d.nodes)) is
      ∙ place_at (ids_of d.nodes) k (λ i j l b e. valid.ids i j l (omega (arith, b, n)) e) (omega (arith, here, n))

  pub no_fault : is_text_at d.nodes k ≡ false → style_fault d id ≡ None
  no_fault no_text = rw (place_is, no_text) refl

  pub changes_here : (f : Node → Node) → after_change d id f ≡ record { width = d.width; height = d.height; nodes = changed_at k f d.nodes }
  changes_here f = rw place_is refl

not_some : (o : Option Given) → not (is_some o) ≡ is_none o
not_some None = refl
not_some (Some v) = refl

-- a node takes a declaration
pub takes_set : (c : Candidate) (nodes : List Node) (k : ℕ) → k < length nodes → (c.weight.important || not (declares_at nodes k c.decl.property)) ≡ true → changed_at k (with_style c.decl) nodes ≡ changed_at k (takes_one c) nodes
takes_set c [] k h t = absurd (omega (arith, h))
takes_set c (n ∷ ns) zero h t =
    let e : (c.weight.important || is_none (declared_value c.decl.property n.decls)) ≡ true = rw (← not_some (declared_value c.decl.property n.decls)) t in
    rw e refl
takes_set c (n ∷ ns) (suc k) h t = ap (λ (r : List Node). n ∷ r) (takes_set c ns k (omega (arith, h)) t)

pub takes_none : (c : Candidate) (nodes : List Node) (k : ℕ) → k < length nodes → (c.weight.important || not (declares_at nodes k c.decl.property)) ≡ false → changed_at k (takes_one c) nodes ≡ nodes
takes_none c [] k h t = absurd (omega (arith, h))
takes_none c (n ∷ ns) zero h t =
    let e : (c.weight.important || is_none (declared_value c.decl.property n.decls)) ≡ false = rw (← not_some (declared_value c.decl.property n.decls)) t in
    rw e refl
takes_none c (n ∷ ns) (suc k) h t = ap (λ (r : List Node). n ∷ r) (takes_none c ns k (omega (arith, h)) t)

-- one after the other
settled_more : (w : Option Candidate) (ws : List (Option Candidate)) (ds : List Declaration) → with_winners ws (with_winners (w ∷ []) ds) ≡ with_winners (w ∷ ws) ds
settled_more None ws ds = refl
settled_more (Some c) ws ds = refl

takes_more : (w : Option Candidate) (ws : List (Option Candidate)) (k : ℕ) (nodes : List Node) → changed_at k (takes ws) (changed_at k (takes (w ∷ [])) nodes) ≡ changed_at k (takes (w ∷ ws)) nodes
takes_more w ws k [] = refl
takes_more w ws zero (n ∷ ns) = ap (λ ds. record n { decls = ds } ∷ ns) (settled_more w ws n.decls)
takes_more w ws (suc k) (n ∷ ns) = ap (λ (r : List Node). n ∷ r) (takes_more w ws k ns)

drop_one : (xs : List (Option Candidate)) (i : ℕ) (x : Option Candidate) → i < length xs → x ≡ slice_index_or xs i x → drop i xs ≡ x ∷ drop (i + 1) xs
drop_one [] i x h is = absurd (omega (arith, h))
drop_one (y ∷ ys) zero x h is = ap (λ z. z ∷ ys) (sym is)
drop_one (y ∷ ys) (suc i) x h is = let e : suc (i + 1) ≡ suc i + 1 = omega arith in drop_one ys i x (omega (arith, h)) is ∙ ap (λ z. x ∷ drop z (y ∷ ys)) e

pub takes_nothing : (k : ℕ) (nodes : List Node) → changed_at k (takes []) nodes ≡ nodes
takes_nothing k [] = refl
takes_nothing zero (n ∷ ns) = refl
takes_nothing (suc k) (n ∷ ns) = ap (λ (r : List Node). n ∷ r) (takes_nothing k ns)

drop_all : (xs : List (Option Candidate)) (i : ℕ) → length xs ≤ i → drop i xs ≡ []
drop_all [] zero h = refl
drop_all [] (suc i) h = refl
drop_all (x ∷ xs) zero h = absurd (omega (arith, h))
drop_all (x ∷ xs) (suc i) h = drop_all xs i (omega (arith, h))

pub takes_next : (winners : List (Option Candidate)) (i k : ℕ) (w : Option Candidate) (now new all : List Node) → i < length winners → w ≡ slice_index_or winners i w → new ≡ changed_at k (takes (w ∷ [])) now → changed_at k (takes (drop i winners)) now ≡ all →
    changed_at k (takes (drop (i + 1) winners)) new ≡ all
takes_next winners i k w now new all h is made was =
    ap (changed_at k (takes (drop (i + 1) winners))) made ∙ takes_more w (drop (i + 1) winners) k now
    ∙ ap (λ z. changed_at k (takes z) now) (sym (drop_one winners i w h is)) ∙ was

pub takes_end : (winners : List (Option Candidate)) (i k : ℕ) (now all : List Node) → length winners ≤ i → changed_at k (takes (drop i winners)) now ≡ all → now ≡ all
takes_end winners i k now all h was = sym (takes_nothing k now) ∙ ap (λ z. changed_at k (takes z) now) (sym (drop_all winners i h)) ∙ was

pub takes_absent : (k : ℕ) (nodes : List Node) → changed_at k (takes (None ∷ [])) nodes ≡ nodes
takes_absent k [] = refl
takes_absent zero (n ∷ ns) = refl
takes_absent (suc k) (n ∷ ns) = ap (λ (r : List Node). n ∷ r) (takes_absent k ns)

pub takes_single : (c : Candidate) (k : ℕ) (nodes : List Node) → changed_at k (takes_one c) nodes ≡ changed_at k (takes (Some c ∷ [])) nodes
takes_single c k [] = refl
takes_single c zero (n ∷ ns) = refl
takes_single c (suc k) (n ∷ ns) = ap (λ (r : List Node). n ∷ r) (takes_single c k ns)

pub length_taken : (ws : List (Option Candidate)) (k : ℕ) (nodes : List Node) → length (changed_at k (takes ws) nodes) ≡ length nodes
length_taken ws k [] = refl
length_taken ws zero (n ∷ ns) = refl
length_taken ws (suc k) (n ∷ ns) = ap suc (length_taken ws k ns)

pub text_taken : (ws : List (Option Candidate)) (k : ℕ) (nodes : List Node) (j : ℕ) → is_text_at (changed_at k (takes ws) nodes) j ≡ is_text_at nodes j
text_taken ws k [] j = refl
text_taken ws zero (n ∷ ns) zero = refl
text_taken ws zero (n ∷ ns) (suc j) = refl
text_taken ws (suc k) (n ∷ ns) zero = refl
text_taken ws (suc k) (n ∷ ns) (suc j) = text_taken ws k ns j

-- the nodes of which the first have taken theirs
pub length_restyled : (ws : List (List (Option Candidate))) (nodes : List Node) → length (restyled ws nodes) ≡ length nodes
length_restyled [] nodes = refl
length_restyled (w ∷ ws) [] = refl
length_restyled (w ∷ ws) (n ∷ ns) = ap suc (length_restyled ws ns)

pub text_restyled : (ws : List (List (Option Candidate))) (nodes : List Node) (j : ℕ) → is_text_at (restyled ws nodes) j ≡ is_text_at nodes j
text_restyled [] nodes j = refl
text_restyled (w ∷ ws) [] j = refl
text_restyled (w ∷ ws) (n ∷ ns) zero = refl
text_restyled (w ∷ ws) (n ∷ ns) (suc j) = text_restyled ws ns j

restyled_more : (ws : List (List (Option Candidate))) (w : List (Option Candidate)) (nodes : List Node) → length ws < length nodes → changed_at (length ws) (takes w) (restyled ws nodes) ≡ restyled (ws ++ w ∷ []) nodes
restyled_more [] w [] h = absurd (omega (arith, h))
restyled_more [] w (n ∷ ns) h = refl
restyled_more (x ∷ ws) w [] h = absurd (omega (arith, h))
restyled_more (x ∷ ws) w (n ∷ ns) h = ap (λ (r : List Node). record n { decls = with_winners x n.decls } ∷ r) (restyled_more ws w ns (omega (arith, h)))

settled_none : (i : ℕ) (ds : List Declaration) → with_winners (replicate i None) ds ≡ ds
settled_none zero ds = refl
settled_none (suc i) ds = settled_none i ds

takes_nones : (i k : ℕ) (nodes : List Node) → changed_at k (takes (replicate i None)) nodes ≡ nodes
takes_nones i k [] = refl
takes_nones i zero (n ∷ ns) = ap (λ ds. record n { decls = ds } ∷ ns) (settled_none i n.decls)
takes_nones i (suc k) (n ∷ ns) = ap (λ (r : List Node). n ∷ r) (takes_nones i k ns)

abbrev nobody : Option Candidate
nobody = None

none-some : (c : Candidate) → nobody ≡ Some c → ⊥
none-some c e = absurd cc

module _ (rules : List RuleValue) (nodes : List Node) (names : List Names) where
  pub cascaded_none : IsCascadedTo rules nodes names 0 nodes
  cascaded_none = record { winners = []; are = record { count = refl; each = λ k h. absurd (omega (arith, h)) }; is = refl }

  all_more : (k : ℕ) (ws : List (List (Option Candidate))) (w : List (Option Candidate)) → AreAllWinners rules nodes names k ws → AreWinners rules nodes names k w → AreAllWinners rules nodes names (k + 1) (ws ++ w ∷ [])
  all_more k ws w were are = record {
    count = length-append ws (w ∷ []) ∙ ap (λ z. z + 1) were.count;
    each = λ j h. of_cases j h (cases_lt j k);
  }
    where
      of_cases : (j : ℕ) → j < k + 1 → (j < k) ⊎ (k ≤ j) → AreWinners rules nodes names j (slice_index_or (ws ++ w ∷ []) j [])
      of_cases j h (inl l) =
          let n = were.count in
          let m : j < length ws = omega (arith, l, n) in
          subst (AreWinners rules nodes names j) (sym (get_or_append_left ws (w ∷ []) [] j m)) (were.each j l)
      of_cases j h (inr l) =
          let e : k ≡ j = omega (arith, h, l) in
          subst (λ z. AreWinners rules nodes names z (slice_index_or (ws ++ w ∷ []) z [])) e
          (subst (AreWinners rules nodes names k) (sym (get_or_push ws w [] k were.count)) are)

  pub cascaded_more : (k : ℕ) (old new : List Node) (w : List (Option Candidate)) → k < length nodes → IsCascadedTo rules nodes names k old → AreWinners rules nodes names k w → new ≡ changed_at k (takes w) old → IsCascadedTo rules nodes names (k + 1) new
  cascaded_more k old new w h was are is = record {
    winners = was.winners ++ w ∷ [];
    are = all_more k was.winners w was.are are;
    is =
        let n = was.are.count in
        is ∙ ap (changed_at k (takes w)) was.is ∙ ap (λ z. changed_at z (takes w) (restyled was.winners nodes)) (sym n)
        ∙ restyled_more was.winners w nodes (omega (arith, h, n));
  }

  -- a text takes nothing
  pub cascaded_text : (k : ℕ) (old : List Node) → k < length nodes → is_text_at nodes k ≡ true → IsCascadedTo rules nodes names k old → IsCascadedTo rules nodes names (k + 1) old
  cascaded_text k old h text was = cascaded_more k old old (replicate 46 None) h was nones (sym (takes_nones 46 k old))
    where
      at : (p : Property) → slice_index_or (replicate 46 nobody) (number_of p) nobody ≡ nobody
      at p = get_or-replicate 46 (number_of p) nobody nobody (number_below p)

      nones : AreWinners rules nodes names k (replicate 46 None)
      nones = record {
        count = length-replicate 46 nobody;
        each = λ p. record {
          some = λ c e. absurd (none-some c (sym (at p) ∙ e));
          none = λ c e w. false≢true (sym w.1.no_text ∙ text);
          greatest = λ c d e w. absurd (none-some c (sym (at p) ∙ e));
        };
      }

  pub old_within : (k n : ℕ) (old : List Node) → IsCascadedTo rules nodes names k old → n < length nodes → n < length old
  old_within k n old was h = let e = ap length was.is ∙ length_restyled was.winners nodes in omega (arith, h, e)

  pub old_text : (k n : ℕ) (old : List Node) → IsCascadedTo rules nodes names k old → is_text_at old n ≡ is_text_at nodes n
  old_text k n old was = ap (λ z. is_text_at z n) was.is ∙ text_restyled was.winners nodes n

pub cascaded_all : (doc new : Document) (rules : List RuleValue) (names : List Names) (k : ℕ) → length doc.nodes ≡ k → IsCascadedTo rules doc.nodes names k new.nodes → new.width ≡ doc.width → new.height ≡ doc.height → IsCascaded doc rules names new
cascaded_all doc new rules names k count was width height = record {
  winners = was.winners;
  are = subst (λ z. AreAllWinners rules doc.nodes names z was.winners) (sym count) was.are;
  is = same was.is;
}
  where
    same : new.nodes ≡ restyled was.winners doc.nodes → new ≡ record { width = doc.width; height = doc.height; nodes = restyled was.winners doc.nodes }
    same e = rw (← width, ← height, ← e) refl

-- documents that differ in their nodes alone
pub same_nodes : (d : Document) (ns : List Node) → ns ≡ d.nodes → d ≡ record d { nodes = ns }
same_nodes d ns e = rw e refl

pub with_nodes : (d e : Document) (ns : List Node) → d.width ≡ e.width → d.height ≡ e.height → d.nodes ≡ ns → d ≡ record e { nodes = ns }
with_nodes d e ns w h n = rw (← w, ← h, ← n) refl
