-- The report of a run without editors, read back.
use Rattle.std.proofs.Common.{◌≡◌, ℕ, List, [], ◌∷◌, ◌++◌, map, codes, refl, sym, ap, ◌∙◌, arith, append_assoc, append-nil, Some}
use Rattle.std.specs.List.{flat_map, All}
use Rattle.std.proofs.lemmas.Grind.{flat_map-append}
use Rattle.std.proofs.lemmas.List.Elements.{All-nil, All-cons, All-head, All-tail}
use Rattle.std.specs.Fmt.{decimal}
use Rattle.lay_frag.specs.declared.frag.Frag.{Frag}
use Rattle.lay_frag.specs.Pieces.{Context, frags_of, page_pieces}
use Rattle.lay_frag.specs.Lines.{frag_line, context_text, tree_text}
use Rattle.lay_drawing.specs.declared.line.Line.{Line}
use Rattle.lay_drawing.specs.declared.line.Line.TheVariants.{Publish, Final, Piece}
use Rattle.lay_drawing.specs.declared.places.Place.TheVariants.{LastTree}
use Rattle.lay_drawing.specs.Lines.{line_text, IsLine, IsPiece}
use Rattle.lay_drawing.specs.Reports.{place_after, first_pieces}
use Rattle.lay_drawing.specs.Scratch.{ScratchReportsShow}

piece_text : (f : Frag) → line_text (Piece f) ≡ frag_line f
piece_text f = simp append_assoc

pieces_text : (fs : List Frag) → flat_map line_text (map Piece fs) ≡ flat_map frag_line fs
pieces_text [] = refl
pieces_text (f ∷ fs) = ap (λ (ys : List ℕ). ys ++ flat_map line_text (map Piece fs)) (piece_text f) ∙ ap (λ (ys : List ℕ). frag_line f ++ ys) (pieces_text fs)

tree_is : (tree : List Context) → flat_map frag_line (frags_of tree) ≡ tree_text tree
tree_is [] = refl
tree_is (c ∷ cs) = flat_map-append frag_line (page_pieces c) (frags_of cs) ∙ ap (λ (ys : List ℕ). context_text c ++ ys) (tree_is cs)

stays : (fs : List Frag) → place_after LastTree (map Piece fs) ≡ Some LastTree
stays [] = refl
stays (f ∷ fs) = stays fs

same_pieces : (fs : List Frag) → first_pieces (map Piece fs) ≡ fs
same_pieces [] = refl
same_pieces (f ∷ fs) = ap (λ (gs : List Frag). f ∷ gs) (same_pieces fs)

all_lines : (fs : List Frag) → All IsPiece fs → All IsLine (map Piece fs)
all_lines [] all = All-nil IsLine
all_lines (f ∷ fs) all = All-cons IsLine (Piece f) (map Piece fs) (All-head IsPiece f fs all) (all_lines fs (All-tail IsPiece f fs all))

-- nothing at its ends
ends : (x y : List ℕ) → ((x ++ []) ++ []) ++ y ≡ (x ++ y) ++ []
ends x y = ap (λ (ys : List ℕ). ys ++ y) (append-nil (x ++ []) ∙ append-nil x) ∙ sym (append-nil (x ++ y))

lines_of : List Context → List Line
lines_of tree = Publish 0 ∷ Final 0 ∷ map Piece (frags_of tree)

pub shows_lem : ScratchReportsShow
unfolding lines_of
shows_lem tree all =
    let text : flat_map line_text (map Piece (frags_of tree)) ≡ tree_text tree = pieces_text (frags_of tree) ∙ tree_is tree in
    record {
      lines = lines_of tree;
      report = record {
        place = LastTree;
        are_lines = record {
          bytes_are = rw text (ends (codes "publish " ++ decimal 0 ++ codes "\n") (codes "final " ++ decimal 0 ++ codes "\n" ++ tree_text tree));
          all = All-cons IsLine (Publish 0) (Final 0 ∷ map Piece (frags_of tree)) (omega arith) (All-cons IsLine (Final 0) (map Piece (frags_of tree)) (omega arith) (all_lines (frags_of tree) all));
          place_is = stays (frags_of tree);
        };
        whole = refl;
      };
      shown = tt;
      pieces_are = sym (same_pieces (frags_of tree));
    }
