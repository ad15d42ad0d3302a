-- Between a tree and itself nothing differs.
use Rattle.std.proofs.Common.{◌≡◌, ℤ, ◌||◌, Bool, true, false, List, [], ◌∷◌, ◌++◌, map, refl, sym, ◌∙◌, append_assoc, append-nil}
use Rattle.std.specs.List.{flat_map, list_any}
use Rattle.std.specs.Ordering.{int_eq}
use Rattle.std.proofs.lemmas.Bool.Decides.{Decides-int_eq}
use Rattle.std.proofs.lemmas.Bool.{eq-eqb}
use Rattle.lay_frag.specs.declared.frag.Frag.{Frag}
use Rattle.lay_frag.specs.declared.frag.FragKind.{FragKind}
use Rattle.lay_frag.specs.declared.frag.FragKind.TheVariants.{Box, Line, Text}
use Rattle.lay_drawing.specs.declared.mark.Mark.TheVariants.{Same}
use Rattle.lay_drawing.specs.Marks.{marked}
use Rattle.lay_drawing.specs.Changes.{is_same_kind, is_same, mark_after, left_of, NothingDiffers}

int_same : (z : ℤ) → int_eq z z ≡ true
int_same z = (Decides-int_eq z z).1 refl

kind_same : (k : FragKind) → is_same_kind k k ≡ true
kind_same Box = refl
kind_same Line = refl
kind_same Text = refl

piece_same : (f : Frag) → is_same f f ≡ true
piece_same f =
    rw (kind_same f.kind, eq-eqb f.node.0 f.node.0 refl, eq-eqb f.part f.part refl, int_same f.rect.w.0, int_same f.rect.h.0, int_same f.rect.x.0, int_same f.rect.y.0) refl

-- a tree has each of its pieces
found : (front : List Frag) (f : Frag) (more : List Frag) → list_any (is_same f) (front ++ f ∷ more) ≡ true
found [] f more = rw (piece_same f) refl
found (g ∷ gs) f more = rw (found gs f more) (or_true (is_same f g))
  where
    or_true : (b : Bool) → b || true ≡ true
    or_true true = refl
    or_true false = refl

all_same : (tree front rest : List Frag) → tree ≡ front ++ rest → map (λ f. marked (mark_after tree f) f) rest ≡ map (marked Same) rest
all_same tree front [] is = refl
all_same tree front (f ∷ more) is =
    let here : list_any (is_same f) tree ≡ true = rw is (found front f more) in
    let later = all_same tree (front ++ f ∷ []) more (is ∙ sym (append_assoc front (f ∷ []) more)) in
    rw (here, later) refl

none_left : (tree front rest : List Frag) → tree ≡ front ++ rest → flat_map (left_of tree) rest ≡ []
none_left tree front [] is = refl
none_left tree front (f ∷ more) is =
    let here : list_any (is_same f) tree ≡ true = rw is (found front f more) in
    let later = none_left tree (front ++ f ∷ []) more (is ∙ sym (append_assoc front (f ∷ []) more)) in
    rw (here, later) refl

pub nothing_lem : NothingDiffers
nothing_lem tree = rw (all_same tree [] tree refl, none_left tree [] tree refl) (append-nil (map (marked Same) tree))
