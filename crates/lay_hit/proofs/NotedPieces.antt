-- What is noted of each node after one piece more.
use Rattle.std.proofs.Common.{◌≡◌, ℕ, zero, suc, ◌+◌, ◌<◌, Bool, true, false, cond, ◌&&◌, List, [], ◌∷◌, ◌++◌, length, slice_index, slice_index_or, set, refl, sym, ap, ◌∙◌, subst, arith, inl, inr, Option, Some, None, IfSome, slice_get, take, option_map, append_assoc, if◌then◌else◌}
use Rattle.std.proofs.lemmas.Bool.{cases_eq, cases_order, ne_eqb, eq-eqb, eqb-true}
use Rattle.std.proofs.lemmas.Bool.Decides.{nat_tests}
use Rattle.std.proofs.lemmas.List.{get_or-set_same, get_or-set_other, length-set, length-map, append-nil}
use Rattle.std.specs.List.{filter}
use Rattle.std.specs.Prelude.{nat_le, ◌==◌, option_and_then}
use Rattle.lay_style.specs.Places.{place_of}
use Rattle.lay_doc.specs.Document.{IsDocument, ids_of}
use Rattle.lay_doc.specs.declared.node.Node.{Node}
use Rattle.lay_frag.specs.declared.frag.Frag.{Frag}
use Rattle.lay_frag.specs.declared.frag.FragKind.{FragKind}
use Rattle.lay_frag.specs.declared.frag.FragKind.TheVariants as frag_kind
use Rattle.lay_hit.proofs.Cited.{take_one_more}
use Rattle.lay_hit.specs.declared.question.Question.{Question}
use Rattle.lay_hit.specs.declared.kinds.PaintKind.{PaintKind}
use Rattle.lay_hit.specs.PaintKinds.{is_inline_paint, kind_at}
use Rattle.lay_hit.specs.Hits.{holds, last_holding}
use Rattle.lay_hit.specs.Sorting.{in_order}
use Rattle.lay_hit.specs.Pages.{is_box_piece, is_box_or_text, is_box_of, is_box_or_text_of, id_of}
use Rattle.lay_hit.specs.Questions.{AreNoted, is_painted, node_of_piece, page_with}
use Rattle.lay_hit.specs.Wholes.{own_pieces}
use Rattle.lay_hit.specs.Fronts.{later_of, later_piece, last_in_order}
use Rattle.lay_hit.proofs.Orders.{lastly, last-lastly}
use Rattle.lay_hit.proofs.Rising.{IsOrder, lastly-in_order, greatest-push}

abbrev pub part_le : Frag → Frag → Bool
part_le f g = nat_le f.part g.part

pub part_order : IsOrder part_le
part_order = record {
  either = λ f g after. (grind (arith, nat_tests));
  chain = λ f g h one also. (grind (arith, nat_tests));
}

-- which pieces are painted of the node at k itself
abbrev pub is_own : Question → ℕ → Frag → Bool
is_own q k f = if is_inline_paint (kind_at q.doc.now.nodes q.styles.now k) then is_box_or_text_of (id_of q.doc.now.nodes k) f else is_box_of (id_of q.doc.now.nodes k) f

abbrev pub at_point : Question → Frag → Bool
at_point q f = holds q.at.x.0 q.at.y.0 f

abbrev pub own_list : Question → ℕ → List Frag → List Frag
own_list q k fs = filter (is_own q k) fs

-- the last of a node's own pieces is the one of the greatest part
pub own_greatest : (q : Question) (k : ℕ) (fs : List Frag) → last_holding q.at.x.0 q.at.y.0 (own_pieces (page_with q fs) k) ≡ last_in_order part_le (at_point q) (own_list q k fs)
own_greatest q k fs = last-lastly (at_point q) (own_pieces (page_with q fs) k) ∙ by_kind (is_inline_paint (kind_at q.doc.now.nodes q.styles.now k))
  where
    by_kind : (b : Bool) → lastly (at_point q) (if b then in_order part_le (filter (is_box_or_text_of (id_of q.doc.now.nodes k)) fs) else in_order part_le (filter (is_box_of (id_of q.doc.now.nodes k)) fs))
        ≡ last_in_order part_le (at_point q) (filter (λ f. if b then is_box_or_text_of (id_of q.doc.now.nodes k) f else is_box_of (id_of q.doc.now.nodes k) f) fs)
    by_kind true = lastly-in_order part_le part_order (at_point q) (filter (is_box_or_text_of (id_of q.doc.now.nodes k)) fs)
    by_kind false = lastly-in_order part_le part_order (at_point q) (filter (is_box_of (id_of q.doc.now.nodes k)) fs)

filter-push : {X : Type 0} (p : X → Bool) (xs : List X) (x : X) → filter p (xs ++ x ∷ []) ≡ filter p xs ++ cond (p x) (x ∷ []) []
filter-push p [] x = refl
filter-push {X} p (y ∷ ys) x = by_test (filter-push p ys x) (p y)
  where
    by_test : filter p (ys ++ x ∷ []) ≡ filter p ys ++ cond (p x) (x ∷ []) [] → (b : Bool) → cond b (y ∷ filter p (ys ++ x ∷ [])) (filter p (ys ++ x ∷ [])) ≡ cond b (y ∷ filter p ys) (filter p ys) ++ cond (p x) (x ∷ []) []
    by_test rest true = ap (λ (zs : List X). y ∷ zs) rest
    by_test rest false = rest

-- one piece more, which isn't the node's own or doesn't hold the point
pub unchanged : (q : Question) (k : ℕ) (fs : List Frag) (f : Frag) → is_own q k f ≡ false → last_in_order part_le (at_point q) (own_list q k (fs ++ f ∷ [])) ≡ last_in_order part_le (at_point q) (own_list q k fs)
unchanged q k fs f other = ap (last_in_order part_le (at_point q)) (filter-push (is_own q k) fs f ∙ ap (λ (b : Bool). own_list q k fs ++ cond b (f ∷ []) []) other ∙ append-nil (own_list q k fs))

later-none' : (a : Option Frag) → later_of part_le a None ≡ a
later-none' None = refl
later-none' (Some x) = refl

pub missed : (q : Question) (k : ℕ) (fs : List Frag) (f : Frag) → at_point q f ≡ false → last_in_order part_le (at_point q) (own_list q k (fs ++ f ∷ [])) ≡ last_in_order part_le (at_point q) (own_list q k fs)
missed q k fs f off = by_test (is_own q k f) refl
  where
    by_test : (b : Bool) → is_own q k f ≡ b → last_in_order part_le (at_point q) (own_list q k (fs ++ f ∷ [])) ≡ last_in_order part_le (at_point q) (own_list q k fs)
    by_test false is = unchanged q k fs f is
    by_test true is =
        ap (last_in_order part_le (at_point q)) (filter-push (is_own q k) fs f ∙ ap (λ (b : Bool). own_list q k fs ++ cond b (f ∷ []) []) is)
        ∙ greatest-push part_le part_order (at_point q) (own_list q k fs) f ∙ ap (λ (b : Bool). later_of part_le (last_in_order part_le (at_point q) (own_list q k fs)) (cond b (Some f) None)) off
        ∙ later-none' (last_in_order part_le (at_point q) (own_list q k fs))

-- and one that is and does
pub replaced : (q : Question) (k : ℕ) (fs : List Frag) (f : Frag) → is_own q k f ≡ true → at_point q f ≡ true → last_in_order part_le (at_point q) (own_list q k (fs ++ f ∷ [])) ≡ Some (later_piece (last_in_order part_le (at_point q) (own_list q k fs)) f)
replaced q k fs f own on =
    ap (last_in_order part_le (at_point q)) (filter-push (is_own q k) fs f ∙ ap (λ (b : Bool). own_list q k fs ++ cond b (f ∷ []) []) own)
    ∙ greatest-push part_le part_order (at_point q) (own_list q k fs) f ∙ ap (λ (b : Bool). later_of part_le (last_in_order part_le (at_point q) (own_list q k fs)) (cond b (Some f) None)) on
    ∙ later (last_in_order part_le (at_point q) (own_list q k fs))
  where
    later : (a : Option Frag) → later_of part_le a (Some f) ≡ Some (later_piece a f)
    later None = refl
    later (Some g) = by_test (part_le g f)
      where
        by_test : (b : Bool) → cond b (Some f) (Some g) ≡ Some (cond b f g)
        by_test true = refl
        by_test false = refl

-- a piece is a node's own just where it is painted with it
pub painted_of : (kind : FragKind) (k : PaintKind) (same : Bool) → (if is_inline_paint k then is_box_or_text kind && same else is_box_piece kind && same) ≡ is_painted kind k && same
painted_of frag_kind.Box k same = by_test (is_inline_paint k)
  where
    by_test : (b : Bool) → (if b then same else same) ≡ same
    by_test true = refl
    by_test false = refl
painted_of frag_kind.Line k same = by_test (is_inline_paint k)
  where
    by_test : (b : Bool) → (if b then false else false) ≡ false
    by_test true = refl
    by_test false = refl
painted_of frag_kind.Text k same = by_test (is_inline_paint k)
  where
    by_test : (b : Bool) → (if b then same else false) ≡ b && same
    by_test true = refl
    by_test false = refl

pub own_is_painted : (q : Question) (k : ℕ) (f : Frag) → is_own q k f ≡ is_painted f.kind (kind_at q.doc.now.nodes q.styles.now k) && (f.node.0 == id_of q.doc.now.nodes k)
own_is_painted q k f = painted_of f.kind (kind_at q.doc.now.nodes q.styles.now k) (f.node.0 == id_of q.doc.now.nodes k)

-- ids are of one node each
same_id : (q : Question) → IsDocument q.doc.now → (j k : ℕ) → j < length q.doc.now.nodes → k < length q.doc.now.nodes → id_of q.doc.now.nodes j ≡ id_of q.doc.now.nodes k → j ≡ k
same_id q is j k low high e = elim (cases_order j k) [
  | inl same ↦ same
  | inr other ↦ elim other [
    | inl less ↦ absurd (is.ids j k less high e)
    | inr more ↦ absurd (is.ids k j more low (sym e))
  ]
]

-- what is found stands there
place_is : (n p : ℕ) (xs : List ℕ) → place_of n xs ≡ Some p → slice_index xs p ≡ n
place_is n p [] e = absurd cc
place_is n p (x ∷ xs) e = by_test (λ r. place_is n r xs) (x == n) refl e
  where
    next : ((r : ℕ) → place_of n xs ≡ Some r → slice_index xs r ≡ n) → (o : Option ℕ) → place_of n xs ≡ o → option_map suc o ≡ Some p → slice_index (x ∷ xs) p ≡ n
    next rest None is h = absurd cc
    next rest (Some r) is h = let same : suc r ≡ p = cc in subst (λ (t : ℕ). slice_index (x ∷ xs) t ≡ n) same (rest r is)

    by_test : ((r : ℕ) → place_of n xs ≡ Some r → slice_index xs r ≡ n) → (b : Bool) → (x == n) ≡ b → (if b then Some 0 else option_map suc (place_of n xs)) ≡ Some p → slice_index (x ∷ xs) p ≡ n
    by_test rest true is h = let same : 0 ≡ p = cc in subst (λ (t : ℕ). slice_index (x ∷ xs) t ≡ n) same (eqb-true x n is)
    by_test rest false is h = next rest (place_of n xs) refl h

place_within : (n p : ℕ) (xs : List ℕ) → place_of n xs ≡ Some p → p < length xs
place_within n p [] e = absurd cc
place_within n p (x ∷ xs) e = by_test (λ r. place_within n r xs) (x == n) e
  where
    next : ((r : ℕ) → place_of n xs ≡ Some r → r < length xs) → (o : Option ℕ) → place_of n xs ≡ o → option_map suc o ≡ Some p → p < length (x ∷ xs)
    next rest None is h = absurd cc
    next rest (Some r) is h = let same : suc r ≡ p = cc in let l = rest r is in omega (arith, same, l)

    by_test : ((r : ℕ) → place_of n xs ≡ Some r → r < length xs) → (b : Bool) → (if b then Some 0 else option_map suc (place_of n xs)) ≡ Some p → p < length (x ∷ xs)
    by_test rest true h = let same : 0 ≡ p = cc in omega (arith, same)
    by_test rest false h = next rest (place_of n xs) refl h

-- what isn't found stands nowhere
not_there : (n : ℕ) (xs : List ℕ) → place_of n xs ≡ None → (k : ℕ) → k < length xs → slice_index xs k ≡ n → ⊥
not_there n [] e k within is = omega arith
not_there n (x ∷ xs) e k within is = by_test (not_there n xs) (x == n) refl e k within is
  where
    nothing : (o : Option ℕ) → option_map suc o ≡ None → o ≡ None
    nothing None h = refl
    nothing (Some r) h = absurd cc

    by_test : (place_of n xs ≡ None → (j : ℕ) → j < length xs → slice_index xs j ≡ n → ⊥) → (b : Bool) → (x == n) ≡ b → (if b then Some 0 else option_map suc (place_of n xs)) ≡ None → (j : ℕ) → j < length (x ∷ xs) → slice_index (x ∷ xs) j ≡ n → ⊥
    by_test rest true here h j low same = absurd cc
    by_test rest false here h zero low same = let t = eq-eqb x n same in cc
    by_test rest false here h (suc j) low same = rest (nothing (place_of n xs) h) j (omega arith) same

-- the node that a piece is painted with, as the walk finds it
module _ (q : Question) (is : IsDocument q.doc.now) (f : Frag) where
  ids_long : length (ids_of q.doc.now.nodes) ≡ length q.doc.now.nodes
  ids_long = length-map q.doc.now.nodes (λ (n : Node). n.id.0)

  -- a piece of the node at p isn't another node's
  pub other_node : (p k : ℕ) → p < length q.doc.now.nodes → k < length q.doc.now.nodes → (k ≡ p → ⊥) → id_of q.doc.now.nodes p ≡ f.node.0 → is_own q k f ≡ false
  other_node p k low high other found = own_is_painted q k f ∙ by_test (is_painted f.kind (kind_at q.doc.now.nodes q.styles.now k)) (f.node.0 == id_of q.doc.now.nodes k) (ne_eqb f.node.0 (id_of q.doc.now.nodes k) (λ same. other (same_id q is k p high low (sym same ∙ sym found))))
    where
      by_test : (a b : Bool) → b ≡ false → (a && b) ≡ false
      by_test true b e = e
      by_test false b e = refl

  pub own_node : (p : ℕ) → is_painted f.kind (kind_at q.doc.now.nodes q.styles.now p) ≡ true → id_of q.doc.now.nodes p ≡ f.node.0 → is_own q p f ≡ true
  own_node p painted found = own_is_painted q p f ∙ by_test (is_painted f.kind (kind_at q.doc.now.nodes q.styles.now p)) (f.node.0 == id_of q.doc.now.nodes p) painted (eq-eqb f.node.0 (id_of q.doc.now.nodes p) (sym found))
    where
      by_test : (a b : Bool) → a ≡ true → b ≡ true → (a && b) ≡ true
      by_test true b e h = h
      by_test false b e h = absurd cc

  pub unpainted_node : (p : ℕ) → is_painted f.kind (kind_at q.doc.now.nodes q.styles.now p) ≡ false → is_own q p f ≡ false
  unpainted_node p painted = own_is_painted q p f ∙ ap (λ (b : Bool). b && (f.node.0 == id_of q.doc.now.nodes p)) painted

  -- where the walk finds none, the piece is no node's own
  nobody : (k : ℕ) → k < length q.doc.now.nodes → place_of f.node.0 (ids_of q.doc.now.nodes) ≡ None → is_own q k f ≡ false
  nobody k low none = own_is_painted q k f ∙ by_test (is_painted f.kind (kind_at q.doc.now.nodes q.styles.now k)) (f.node.0 == id_of q.doc.now.nodes k)
      (ne_eqb f.node.0 (id_of q.doc.now.nodes k) (λ same. not_there f.node.0 (ids_of q.doc.now.nodes) none k (let e = ids_long in omega (arith, e, low)) (sym same)))
    where
      by_test : (a b : Bool) → b ≡ false → (a && b) ≡ false
      by_test true b e = e
      by_test false b e = refl

  unpainted : (k p : ℕ) → k < length q.doc.now.nodes → place_of f.node.0 (ids_of q.doc.now.nodes) ≡ Some p → p < length q.doc.now.nodes
      → is_painted f.kind (kind_at q.doc.now.nodes q.styles.now p) ≡ false → is_own q k f ≡ false
  unpainted k p low found within off = elim (cases_eq k p) [
    | inl same ↦ subst (λ (j : ℕ). is_own q j f ≡ false) (sym same) (unpainted_node p off)
    | inr other ↦ other_node p k within low other (place_is f.node.0 p (ids_of q.doc.now.nodes) found)
  ]

  pub no_node : node_of_piece q f ≡ None → (k : ℕ) → k < length q.doc.now.nodes → is_own q k f ≡ false
  no_node none k low = by_place (place_of f.node.0 (ids_of q.doc.now.nodes)) refl none
    where
      by_painted : (p : ℕ) → place_of f.node.0 (ids_of q.doc.now.nodes) ≡ Some p → (b : Bool) → is_painted f.kind (kind_at q.doc.now.nodes q.styles.now p) ≡ b → cond b (Some p) None ≡ None → is_own q k f ≡ false
      by_painted p at true painted h = absurd cc
      by_painted p at false painted h = unpainted k p low at (let e = ids_long in let l = place_within f.node.0 p (ids_of q.doc.now.nodes) at in omega (arith, e, l)) painted

      by_place : (o : Option ℕ) → place_of f.node.0 (ids_of q.doc.now.nodes) ≡ o → option_and_then (λ j. if is_painted f.kind (kind_at q.doc.now.nodes q.styles.now j) then Some j else None) o ≡ None → is_own q k f ≡ false
      by_place None at h = nobody k low at
      by_place (Some p) at h = by_painted p at (is_painted f.kind (kind_at q.doc.now.nodes q.styles.now p)) refl h

  -- where it finds one, the piece is that node's own
  pub found_node : (p : ℕ) → node_of_piece q f ≡ Some p → (is_own q p f ≡ true) × (id_of q.doc.now.nodes p ≡ f.node.0)
  found_node p found = by_place (place_of f.node.0 (ids_of q.doc.now.nodes)) refl found
    where
      by_painted : (r : ℕ) → place_of f.node.0 (ids_of q.doc.now.nodes) ≡ Some r → (b : Bool) → is_painted f.kind (kind_at q.doc.now.nodes q.styles.now r) ≡ b → cond b (Some r) None ≡ Some p → (is_own q p f ≡ true) × (id_of q.doc.now.nodes p ≡ f.node.0)
      by_painted r at true painted h = let same : r ≡ p = cc in subst (λ (j : ℕ). (is_own q j f ≡ true) × (id_of q.doc.now.nodes j ≡ f.node.0)) same (let e = place_is f.node.0 r (ids_of q.doc.now.nodes) at in (own_node r painted e, e))
      by_painted r at false painted h = absurd cc

      by_place : (o : Option ℕ) → place_of f.node.0 (ids_of q.doc.now.nodes) ≡ o → option_and_then (λ j. if is_painted f.kind (kind_at q.doc.now.nodes q.styles.now j) then Some j else None) o ≡ Some p → (is_own q p f ≡ true) × (id_of q.doc.now.nodes p ≡ f.node.0)
      by_place None at h = absurd cc
      by_place (Some r) at h = by_painted r at (is_painted f.kind (kind_at q.doc.now.nodes q.styles.now r)) refl h

-- So what is noted stays true with one piece more.
module _ (q : Question) (fs : List Frag) (f : Frag) (noted : List (Option Frag)) (before : AreNoted q fs noted) where
  kept : (k : ℕ) → k < length q.doc.now.nodes → last_in_order part_le (at_point q) (own_list q k (fs ++ f ∷ [])) ≡ last_in_order part_le (at_point q) (own_list q k fs)
      → slice_index_or noted k None ≡ last_holding q.at.x.0 q.at.y.0 (own_pieces (page_with q (fs ++ f ∷ [])) k)
  kept k low e = before.each k low ∙ own_greatest q k fs ∙ sym e ∙ sym (own_greatest q k (fs ++ f ∷ []))

  -- one that doesn't hold the point
  pub noted_missed : at_point q f ≡ false → AreNoted q (fs ++ f ∷ []) noted
  noted_missed off = record { count = before.count; each = λ k low. kept k low (missed q k fs f off) }

  module _ (is : IsDocument q.doc.now) where
    -- one that is painted with no node
    pub noted_nowhere : node_of_piece q f ≡ None → AreNoted q (fs ++ f ∷ []) noted
    noted_nowhere none = record { count = before.count; each = λ k low. kept k low (unchanged q k fs f (no_node q is f none k low)) }

    -- one that holds the point and is painted with the node at p
    pub noted_at : (p : ℕ) → p < length q.doc.now.nodes → node_of_piece q f ≡ Some p → at_point q f ≡ true → (after : List (Option Frag)) → after ≡ set noted p (Some (later_piece (slice_index_or noted p None) f)) → AreNoted q (fs ++ f ∷ []) after
    noted_at p within found on after is_set = record {
      count = ap length is_set ∙ length-set noted p (Some (later_piece (slice_index_or noted p None) f)) ∙ before.count;
      each = λ k low. elim (cases_eq k p) [
        | inl same ↦ subst (λ (j : ℕ). slice_index_or after j None ≡ last_holding q.at.x.0 q.at.y.0 (own_pieces (page_with q (fs ++ f ∷ [])) j)) (sym same)
            (ap (λ (xs : List (Option Frag)). slice_index_or xs p None) is_set
            ∙ get_or-set_same noted p (Some (later_piece (slice_index_or noted p None) f)) None (let e = before.count in omega (arith, e, within))
            ∙ ap (λ (o : Option Frag). Some (later_piece o f)) (before.each p within ∙ own_greatest q p fs)
            ∙ sym (replaced q p fs f (found_node q is f p found).0 on) ∙ sym (own_greatest q p (fs ++ f ∷ [])))
        | inr other ↦ ap (λ (xs : List (Option Frag)). slice_index_or xs k None) is_set
            ∙ get_or-set_other noted p k (Some (later_piece (slice_index_or noted p None) f)) None other
            ∙ kept k low (unchanged q k fs f (other_node q is f p k within low other (found_node q is f p found).1))
      ];
    }

-- the pieces up to one more
pub noted_more : (q : Question) (fs pages : List Frag) (k : ℕ) (f : Frag) (noted : List (Option Frag)) → slice_get pages k ≡ Some f → AreNoted q ((fs ++ take k pages) ++ f ∷ []) noted → AreNoted q (fs ++ take (k + 1) pages) noted
noted_more q fs pages k f noted here is =
    subst (λ (gs : List Frag). AreNoted q gs noted) (append_assoc fs (take k pages) (f ∷ []) ∙ ap (λ (gs : List Frag). fs ++ gs) (sym (take_one_more pages k f here))) is

pub missed_more : (q : Question) (fs pages : List Frag) (k : ℕ) (b : Bool) (noted : List (Option Frag)) → k < length pages → IfSome (slice_get pages k) (λ f. b ≡ at_point q f) → b ≡ false
    → AreNoted q (fs ++ take k pages) noted → AreNoted q (fs ++ take (k + 1) pages) noted
missed_more q fs pages k b noted within tested off before = by_piece (slice_get pages k) refl tested
  where
    nothing : (ps : List Frag) (j : ℕ) → j < length ps → slice_get ps j ≡ None → ⊥
    nothing [] j low e = omega arith
    nothing (p ∷ ps) zero low e = cc
    nothing (p ∷ ps) (suc j) low e = nothing ps j (omega arith) e

    by_piece : (o : Option Frag) → slice_get pages k ≡ o → IfSome o (λ f. b ≡ at_point q f) → AreNoted q (fs ++ take (k + 1) pages) noted
    by_piece None here h = absurd (nothing pages k within here)
    by_piece (Some f) here h = noted_more q fs pages k f noted here (noted_missed q (fs ++ take k pages) f noted before (sym h ∙ off))
