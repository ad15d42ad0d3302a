use Rattle.std.proofs.Common.{rules, ◌≡◌, ◌∙◌, option_map, slice_get, Some}
use Rattle.lay_boxgen.specs.Boxes.{facts_of, trees_of}
use Rattle.lay_boxgen.specs.Listing.{all_listed}
use Rattle.lay_boxgen.specs.Parts.{all_put, nothing}
use Rattle.lay_boxgen.proofs.CutParts.{listed-all}
use Rattle.lay_boxgen.proofs.listing.listed_part.Goals as goal

pub returns : goal.returns
returns c =
    let nodes = c.args.sources.nodes.now in
    let styles = c.args.sources.styles.now in
    let trees = c.args.trees.now in
    let own = c.facts-facts.result in
    let first : option_map facts_of (slice_get trees 0) ≡ Some own = search rules in
    let all : c.list_all.new.out.items ≡ all_listed nodes styles own 0 0 (all_put nothing (trees_of trees)) = search rules in
    all ∙ listed-all nodes styles trees own first
