-- An absolutely positioned box is removed from the flow entirely, so that it has no effect on its siblings (CSS 2.2, 9.6): the
-- content of lines is the same without the anchors in their segments, and so is each line. Where segments end without anchors
-- is said by the law of lay_space.
use Rattle.std.specs.Prelude.{◌≡◌, List, map}
use Rattle.lay_space.specs.AnchorLaws.{segment_without_anchors}
use Rattle.lay_space.specs.declared.segment.Segment.{Segment}
use Rattle.lay_line_measures.specs.BoxMeasuresValue.{BoxMeasuresValue}
use Rattle.lay_line_measures.specs.Contents.{content_in}
use Rattle.lay_line_measures.specs.declared.container.Container.{Container}

abbrev pub AnchorsAddNothingToLines : Type 0
AnchorsAddNothingToLines = (m : BoxMeasuresValue) (c : Container) (segments : List Segment)
    → content_in m c (map segment_without_anchors segments) ≡ content_in m c segments
