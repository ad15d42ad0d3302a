-- The pieces of lines, line after line.
use Rattle.std.proofs.Common.{◌≡◌, ◌∙◌, ℕ, ◌+◌, ◌<◌, Bool, true, false, List, ◌++◌, length, take, drop, get_or, sym, ap, rules}
use Rattle.std.proofs.lemmas.List.{drop_more, append_assoc}
use Rattle.lay_units.specs.Units.{IsUsed}
use Rattle.lay_lines.specs.declared.content.content.InlineArea.{InlineArea}
use Rattle.lay_lines.specs.declared.content.content.Stretch.{Stretch}
use Rattle.lay_lines.specs.declared.content.frame.Frame.{Frame}
use Rattle.lay_lines.specs.declared.row.Ended.{Ended}
use Rattle.lay_lines.specs.Rows.{next_frame}
use Rattle.lay_inlines.specs.declared.line_piece.LinePiece.{LinePiece}
use Rattle.lay_inlines.specs.declared.lines.Container.{Container}
use Rattle.lay_inlines.specs.LinePieces.{pieces_if_seen, pieces_from}
use Rattle.lay_inlines.specs.OpenBoxes.{open_after}
use Rattle.lay_inlines.specs.Strokes.{parts_of}

-- one line more
pub pieces_more : (c : Container) (areas : List InlineArea) (fr : Frame) (ns : List ℕ) (ss : List Stretch) (rows : List Ended) (k : ℕ) (d : Ended) (out new : List LinePiece) (fr' : Frame) (ns' : List ℕ) (taken ss' : List Stretch)
    → k < length rows → taken ≡ take (get_or rows k d).reach.count ss → ss' ≡ drop (get_or rows k d).reach.count ss → fr' ≡ next_frame fr (get_or rows k d).seen → ns' ≡ open_after ns (parts_of taken)
    → new ≡ out ++ pieces_if_seen c areas fr (get_or rows k d) ns (parts_of taken)
    → new ++ pieces_from c areas fr' ns' ss' (drop (k + 1) rows) ≡ out ++ pieces_from c areas fr ns ss (drop k rows)
pieces_more c areas fr ns ss rows k d out new fr' ns' taken ss' lt front back frame opened is =
    let row = get_or rows k d in
    let now = is ∙ ap (λ (ts : List Stretch). out ++ pieces_if_seen c areas fr row ns (parts_of ts)) front in
    let boxes = opened ∙ ap (λ (ts : List Stretch). open_after ns (parts_of ts)) front in
    (λ i. now i ++ pieces_from c areas (frame i) (boxes i) (back i) (drop (k + 1) rows))
    ∙ append_assoc out _ _
    ∙ ap (λ (rs : List Ended). out ++ pieces_from c areas fr ns ss rs) (sym (drop_more rows k d lt))

pub next_indent : (fr : Frame) (seen : Bool) → IsUsed fr.indent.0 → IsUsed (next_frame fr seen).indent.0
next_indent fr true is = (search rules, search rules)
next_indent fr false is = is
