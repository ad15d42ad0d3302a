-- Edits of declarations and texts leave the nodes of a document where they stand, and change none but those that they name.
use Rattle.std.proofs.Common.{◌≡◌, ℕ, zero, suc, ◌<◌, Bool, true, false, All, List, [], ◌∷◌, length, refl, ap, sym, subst, ◌∙◌, arith, Some, slice_get}
use Rattle.std.proofs.lemmas.List.Elements.{All-head, All-tail, All-weaker}
use Rattle.lay_style.specs.Places.{place_of}
use Rattle.lay_doc.specs.declared.edit.Edit.{Edit}
use Rattle.lay_doc.specs.declared.edit.Edit.TheVariants.{SetStyle, ClearStyle, SetText, Insert, Remove, Bad}
use Rattle.lay_doc.specs.declared.node.Node.{Node}
use Rattle.lay_doc.specs.Changes.{changed_at, with_style, with_text, without_style}
use Rattle.lay_doc.specs.Document.{Document, ids_of}
use Rattle.lay_doc.specs.Edits.{after}
use Rattle.lay_after_edits.proofs.Cited.{column_stays, got, length-ids, restyled}
use Rattle.lay_history.specs.Edits.EditLists.{after_all}
use Rattle.lay_after_edits.specs.Contexts.Changed.{AreStaying, ChangesAt, HasForm}
use Rattle.lay_after_edits.specs.Contexts.Links.{is_made}
use Rattle.lay_after_edits.specs.Contexts.Marks.{Marks}
use Rattle.lay_after_edits.specs.Contexts.Reach.{IsChange}
use Rattle.lay_after_edits.proofs.ContextsLemmas.Flags.{mark-keeps}

-- an edit changes a node with a flag
pub record IsFlagged (ids : List ℕ) (flags : List Bool) (edit : Edit) : Type 0 where
  pub place : ℕ
  pub changes : ChangesAt ids edit place
  pub flag : is_made flags place ≡ true

pub flagged-still : (ids : List ℕ) (at : ℕ) (before after : List Bool) → Marks at before after → (edits : List Edit) → All (IsFlagged ids before) edits → All (IsFlagged ids after) edits
flagged-still ids at before after m edits all =
    All-weaker (IsFlagged ids before) (IsFlagged ids after)
    (λ e f. record { place = f.place; changes = f.changes; flag = mark-keeps at before after m f.place f.flag }) edits all

other-same : (p k : ℕ) (f : Node → Node) (ns : List Node) → (k ≡ p → ⊥) → slice_get (changed_at p f ns) k ≡ slice_get ns k
other-same p k f [] other = refl
other-same zero zero f (x ∷ xs) other = absurd (other refl)
other-same zero (suc k) f (x ∷ xs) other = refl
other-same (suc p) zero f (x ∷ xs) other = refl
other-same (suc p) (suc k) f (x ∷ xs) other = other-same p k f xs (λ e. other (ap suc e))

keeps-form : (p : ℕ) (f : Node → Node) → ((n : Node) → n.id ≡ (f n).id) → ((n : Node) → n.kind ≡ (f n).kind) → (ns : List Node) (k : ℕ) → k < length ns
    → HasForm ns (changed_at p f ns) k
keeps-form p f i q [] k lt = absurd (omega (arith, lt))
keeps-form zero f i q (x ∷ xs) zero lt = record { one = x; other = f x; here = refl; there = refl; id = i x; kind = q x }
keeps-form zero f i q (x ∷ xs) (suc k) lt =
    let g = got xs k (omega (arith, lt)) in record { one = g.0; other = g.0; here = g.1; there = g.1; id = refl; kind = refl }
keeps-form (suc p) f i q (x ∷ xs) zero lt = record { one = x; other = x; here = refl; there = refl; id = refl; kind = refl }
keeps-form (suc p) f i q (x ∷ xs) (suc k) lt =
    let s = keeps-form p f i q xs k (omega (arith, lt)) in
    record { one = s.one; other = s.other; here = s.here; there = s.there; id = s.id; kind = s.kind }

-- a change of one node with a flag
one-stays : (ns : List Node) (flags : List Bool) (p : ℕ) (f : Node → Node) → length flags ≡ length ns → is_made flags p ≡ true
    → ((n : Node) → n.id ≡ (f n).id) → ((n : Node) → n.kind ≡ (f n).kind) → ((n : Node) → (f n).parent ≡ n.parent) → AreStaying ns (changed_at p f ns) flags
one-stays ns flags p f count flag i q up = record {
  count = count;
  parents = column_stays (λ n. n.parent) f up p ns;
  ids = column_stays (λ n. n.id.0) f (λ n. ap (λ x. x.0) (sym (i n))) p ns;
  form = λ k lt. keeps-form p f i q ns k lt;
  same = λ k lt is_not. other-same p k f ns (λ e. absurd (let z : true ≡ false = sym flag ∙ (ap (is_made flags) (sym e) ∙ is_not) in cc));
}

over-change : (d : Document) (e : Document) (flags : List Bool) (p : ℕ) (f : Node → Node) → length flags ≡ length d.nodes → is_made flags p ≡ true
    → ((n : Node) → n.id ≡ (f n).id) → ((n : Node) → n.kind ≡ (f n).kind) → ((n : Node) → (f n).parent ≡ n.parent)
    → e ≡ record d { nodes = changed_at p f d.nodes } → AreStaying d.nodes e.nodes flags
over-change d e flags p f count flag i q up is =
    subst (λ (x : Document). AreStaying d.nodes x.nodes flags) (sym is) (one-stays d.nodes flags p f count flag i q up)

one-edit : (d : Document) (flags : List Bool) (edit : Edit) (id p : ℕ) → length flags ≡ length d.nodes → is_made flags p ≡ true → IsChange edit id
    → place_of id (ids_of d.nodes) ≡ Some p → AreStaying d.nodes (after d edit).nodes flags
one-edit d flags (SetStyle node decl) id p count flag change named =
    over-change d (after d (SetStyle node decl)) flags p (with_style decl) count flag (λ n. refl) (λ n. refl) (λ n. refl)
    (restyled d node.0 (with_style decl) p (ap (λ (x : ℕ). place_of x (ids_of d.nodes)) change ∙ named))
one-edit d flags (ClearStyle node property) id p count flag change named =
    over-change d (after d (ClearStyle node property)) flags p (without_style property) count flag (λ n. refl) (λ n. refl) (λ n. refl)
    (restyled d node.0 (without_style property) p (ap (λ (x : ℕ). place_of x (ids_of d.nodes)) change ∙ named))
one-edit d flags (SetText node text) id p count flag change named =
    over-change d (after d (SetText node text)) flags p (with_text text) count flag (λ n. refl) (λ n. refl) (λ n. refl)
    (restyled d node.0 (with_text text) p (ap (λ (x : ℕ). place_of x (ids_of d.nodes)) change ∙ named))
one-edit d flags (Insert parent index new) id p count flag change named = absurd change
one-edit d flags (Remove node) id p count flag change named = absurd change
one-edit d flags (Bad bad) id p count flag change named = absurd change

none-stays : (ns : List Node) (flags : List Bool) → length flags ≡ length ns → AreStaying ns ns flags
none-stays ns flags count = record {
  count = count;
  parents = refl;
  ids = refl;
  form = λ k lt. (let g = got ns k lt in record { one = g.0; other = g.0; here = g.1; there = g.1; id = refl; kind = refl });
  same = λ k lt is_not. refl;
}

same-some : (n o : Node) → Some n ≡ Some o → n ≡ o
same-some n o e = cc

through-form : (ns ms os : List Node) (k : ℕ) → HasForm ns ms k → HasForm ms os k → HasForm ns os k
through-form ns ms os k a b =
    let z : a.other ≡ b.one = same-some a.other b.one (sym a.there ∙ b.here) in
    record {
      one = a.one;
      other = b.other;
      here = a.here;
      there = b.there;
      id = a.id ∙ (ap (λ (n : Node). n.id) z ∙ b.id);
      kind = a.kind ∙ (ap (λ (n : Node). n.kind) z ∙ b.kind);
    }

through : (ns ms os : List Node) (flags : List Bool) → AreStaying ns ms flags → AreStaying ms os flags → AreStaying ns os flags
through ns ms os flags a b =
    let same-length : length ms ≡ length ns = sym b.count ∙ a.count in
    record {
      count = a.count;
      parents = b.parents ∙ a.parents;
      ids = b.ids ∙ a.ids;
      form = λ k lt. through-form ns ms os k (a.form k lt) (b.form k (omega (arith, lt, same-length)));
      same = λ k lt is_not. b.same k (omega (arith, lt, same-length)) is_not ∙ a.same k lt is_not;
    }

length-after : (ns ms : List Node) → ids_of ms ≡ ids_of ns → length ms ≡ length ns
length-after ns ms e = sym (length-ids ms) ∙ (ap length e ∙ length-ids ns)

pub all-stay : (ids : List ℕ) (flags : List Bool) (d : Document) (edits : List Edit) → length flags ≡ length d.nodes → ids_of d.nodes ≡ ids → All (IsFlagged ids flags) edits
    → AreStaying d.nodes (after_all d edits).nodes flags
all-stay ids flags d [] count is all = none-stays d.nodes flags count
all-stay ids flags d (e ∷ es) count is all =
    let f = All-head (IsFlagged ids flags) e es all in
    let one = one-edit d flags e f.changes.id f.place count f.flag f.changes.change (ap (place_of f.changes.id) is ∙ f.changes.named) in
    through d.nodes (after d e).nodes (after_all (after d e) es).nodes flags one
    (all-stay ids flags (after d e) es (count ∙ sym (length-after d.nodes (after d e).nodes one.ids)) (one.ids ∙ is) (All-tail (IsFlagged ids flags) e es all))
