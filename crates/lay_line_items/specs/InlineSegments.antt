-- The content of the lines of a block container, cut where lines may break (CSS 2.2, 9.4.2, 16.4 and 16.6): what white
-- space processing leaves of its items, each text with the widths of its words and spaces in its own box's font and spacings.
use Rattle.std.specs.Prelude.{ℕ, List, [], false, Option, Some, None, slice_get, map}
use Rattle.lay_units.specs.declared.records.ClusterWidth.{ClusterWidth}
use Rattle.lay_style.specs.declared.style.TextStyle.{TextStyle}
use Rattle.lay_style.specs.LengthValues.{length_of, size_of}
use Rattle.lay_box_tree.specs.declared.box_tree.BoxNode.{BoxNode}
use Rattle.lay_face.specs.FaceValue.{FaceValue}
use Rattle.lay_face.specs.Clusters.{widths_of}
use Rattle.lay_face.specs.declared.clusters.Setting.{Setting}
use Rattle.lay_space.specs.declared.item.Item.{Item}
use Rattle.lay_space.specs.declared.item.Item.TheVariants as item
use Rattle.lay_space.specs.declared.segment.Segment.{Segment}
use Rattle.lay_space.specs.WhiteSpace.{processed}
use Rattle.lay_space.specs.Segments.{segments_of}
use Rattle.lay_line_items.specs.GatheredWidths.{gathered}
use Rattle.lay_line_items.specs.InlineItems.{items_of}

-- the font size and the spacings that a text of this style is set in: used lengths, held within their bounds
abbrev pub setting_of_text : TextStyle → Setting
setting_of_text s = record { size = size_of s.font_size.0; letter = length_of s.letter_spacing.0; word = length_of s.word_spacing.0 }

-- the widths of the clusters of a text of this box, those of a word together
abbrev pub widths_in : FaceValue → Option BoxNode → List ℕ → List ClusterWidth
widths_in face None text = []
widths_in face (Some b) text = gathered text (widths_of face (setting_of_text b.style.text) text)

-- this item, with widths where it is a text
abbrev pub measured_item : FaceValue → List BoxNode → Item → Item
measured_item face boxes (item.Text k text mode widths) = item.Text k text mode (widths_in face (slice_get boxes k) text)
measured_item face boxes (item.Atomic k mode) = item.Atomic k mode
measured_item face boxes (item.Start k takes) = item.Start k takes
measured_item face boxes (item.End k) = item.End k
measured_item face boxes (item.Float k) = item.Float k
measured_item face boxes (item.Anchor k) = item.Anchor k

abbrev pub measured : FaceValue → List BoxNode → List Item → List Item
measured face boxes items = map (measured_item face boxes) items

-- the items of the block container at c, and its segments
abbrev pub items_in : FaceValue → List BoxNode → ℕ → List Item
items_in face boxes c = measured face boxes (processed false (items_of boxes c))

abbrev pub segments_in : FaceValue → List BoxNode → ℕ → List Segment
segments_in face boxes c = segments_of (items_in face boxes c)
