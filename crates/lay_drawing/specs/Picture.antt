-- The picture of pieces: an SVG document with a rectangle for each piece, in their order, and then the labels of boxes.
-- A box is outlined, a line dashed and a text a filled bar. The classes of a rectangle are the kind of its piece and what is said
-- of it, and its title has these too, with the node and the part. A style element gives each class its colours, on a light
-- page and, where the reader's screen is dark, on a dark one; it holds for this picture alone.
use Rattle.std.specs.Prelude.{ℕ, ℤ, pos, ◌+ℤ◌, ◌-ℤ◌, List, ◌++◌, codes}
use Rattle.std.specs.List.{flat_map}
use Rattle.std.specs.Fmt.{decimal}
use Rattle.lay_frag.specs.Lines.{kind_word}
use Rattle.lay_drawing.specs.declared.frame.Frame.{Frame}
use Rattle.lay_drawing.specs.declared.frame.Span.{Span}
use Rattle.lay_drawing.specs.declared.label.Label.{Label}
use Rattle.lay_drawing.specs.declared.mark.Marked.{Marked}
use Rattle.lay_drawing.specs.Pixels.{px_text}
use Rattle.lay_drawing.specs.Marks.{mark_word}
use Rattle.lay_drawing.specs.Frames.{edges, frame_around}
use Rattle.lay_drawing.specs.Labels.{labels_of}

-- an attribute with a length
unfoldable pub length_text : List ℕ → ℤ → List ℕ
length_text name units = codes " " ++ name ++ codes "=\"" ++ px_text units ++ codes "\""

-- a margin of one px stands round all, so that no outline is cut: its outer edge
abbrev pub outer_edge : Span → ℤ
outer_edge s = s.low -ℤ pos 64

-- from its outer edge to the other
abbrev pub full_size : Span → ℤ
full_size s = (s.high -ℤ s.low) +ℤ pos 128

unfoldable pub view_text : Frame → List ℕ
view_text frame =
    px_text (outer_edge frame.across) ++ codes " " ++ px_text (outer_edge frame.down)
    ++ codes " " ++ px_text (full_size frame.across) ++ codes " " ++ px_text (full_size frame.down)

unfoldable pub full_sizes : Frame → List ℕ
full_sizes frame = length_text (codes "width") (full_size frame.across) ++ length_text (codes "height") (full_size frame.down)

unfoldable pub opening : Frame → List ℕ
opening frame =
    codes "<svg xmlns=\"http://www.w3.org/2000/svg\" class=\"lay\"" ++ full_sizes frame ++ codes " viewBox=\"" ++ view_text frame
    ++ codes "\" font-family=\"monospace\" font-size=\"10\" pointer-events=\"all\">\n"

-- how kinds are painted, and what is said of them
unfoldable pub light : List ℕ
light =
    codes ".lay { background: #fff; color: #1d4ed8 }\n"
    ++ codes ".lay rect { fill: none; stroke: currentColor }\n"
    ++ codes ".lay .line { color: #b45309; stroke-dasharray: 4 2 }\n"
    ++ codes ".lay .text { color: #15803d; fill: currentColor; fill-opacity: 0.4; stroke-width: 0.5 }\n"
    ++ codes ".lay .label { fill: currentColor }\n"
    ++ codes ".lay .same { color: #6b7280 }\n"
    ++ codes ".lay .moved { color: #b45309 }\n"
    ++ codes ".lay .resized { color: #7e22ce }\n"
    ++ codes ".lay .new { color: #15803d }\n"
    ++ codes ".lay .gone { color: #b91c1c }\n"
    ++ codes ".lay .former { color: #b45309; fill-opacity: 0.1; stroke-dasharray: 1 2 }\n"
    ++ codes ".lay rect.hit { color: #be185d; fill: currentColor; fill-opacity: 0.25; stroke-width: 2 }\n"

-- the same where the screen is dark
unfoldable pub dark : List ℕ
dark =
    codes "@media (prefers-color-scheme: dark) {\n"
    ++ codes ".lay { background: #0d1117; color: #79b8ff }\n"
    ++ codes ".lay .line { color: #f0883e }\n"
    ++ codes ".lay .text { color: #3fb950 }\n"
    ++ codes ".lay .same { color: #8b949e }\n"
    ++ codes ".lay .moved, .lay .former { color: #f0883e }\n"
    ++ codes ".lay .resized { color: #c084fc }\n"
    ++ codes ".lay .new { color: #3fb950 }\n"
    ++ codes ".lay .gone { color: #ff7b72 }\n"
    ++ codes ".lay rect.hit { color: #f472b6 }\n"
    ++ codes "}\n"

unfoldable pub style : List ℕ
style = codes "<style>\n" ++ light ++ dark ++ codes "</style>\n"

-- the classes of a piece
unfoldable pub class_text : Marked → List ℕ
class_text m = codes " class=\"" ++ kind_word m.piece.kind ++ mark_word m.mark ++ codes "\""

unfoldable pub title_text : Marked → List ℕ
title_text m =
    codes "<title>" ++ kind_word m.piece.kind ++ codes " " ++ decimal m.piece.node.0 ++ codes " " ++ decimal m.piece.part
    ++ mark_word m.mark ++ codes "</title>"

unfoldable pub place_text : ℤ → ℤ → List ℕ
place_text left top = length_text (codes "x") left ++ length_text (codes "y") top

abbrev pub size : Span → ℤ
size s = s.high -ℤ s.low

unfoldable pub sizes : Frame → List ℕ
sizes frame = length_text (codes "width") (size frame.across) ++ length_text (codes "height") (size frame.down)

unfoldable pub shape : Marked → List ℕ
shape m =
    codes "<rect" ++ place_text (edges m.piece).across.low (edges m.piece).down.low ++ sizes (edges m.piece) ++ class_text m
    ++ codes ">" ++ title_text m ++ codes "</rect>\n"

abbrev pub shapes : List Marked → List ℕ
shapes pieces = flat_map shape pieces

-- where the number of a label begins, 3 px from the left, and its baseline, 10 px from the top
abbrev pub number_left : Span → ℤ
number_left s = s.low +ℤ pos 192

abbrev pub number_base : Span → ℤ
number_base s = s.low +ℤ pos 640

unfoldable pub label_text : Label → List ℕ
label_text label =
    codes "<text" ++ place_text (number_left label.frame.across) (number_base label.frame.down)
    ++ codes " class=\"label" ++ mark_word label.mark ++ codes "\">" ++ decimal label.node ++ codes "</text>\n"

abbrev pub label_texts : List Label → List ℕ
label_texts labels = flat_map label_text labels

abbrev pub picture : List Marked → List ℕ
picture pieces = opening (frame_around pieces) ++ style ++ shapes pieces ++ label_texts (labels_of pieces) ++ codes "</svg>\n"
