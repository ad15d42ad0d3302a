use Rattle.std.proofs.Common.{◌≡◌, ◌∙◌, arith, rules, length, ◌<◌, List, get_or, ap, sym, subst}
use Rattle.std.proofs.lemmas.Option.{slice_get-get_or}
use Rattle.lay_lines.specs.declared.content.content.InlineStart.{InlineStart}
use Rattle.lay_lines.specs.declared.content.content.Part.{Part}
use Rattle.lay_lines.specs.Content.Extents.{reading_of, read_all, strut_alone, opened_all}
use Rattle.lay_lines.proofs.ContentLemmas.LineParts.{to_grow, next_few, reading_next}
use Rattle.lay_lines.proofs.content.extents.line_parts.Goals as goal

pub first-requires : goal.first-requires
first-requires c =
    let le = to_grow c.args.frame.now c.args.boxes.now.items c.args.stretches.now 0 c.args.count (omega arith) in
    let few = c.requires.few in
    let same : c.as_slice.result.now ≡ c.args.boxes.now.items = cc in
    subst (λ (bs : List InlineStart). length (opened_all (strut_alone c.args.frame.now.strut) bs).parts < 4294967296) (sym same) (omega (arith, le, few))

pub read_all-requires : goal.read_all-requires
read_all-requires c =
    let s = get_or c.args.stretches.now c.loop-k.k c.index-stretches-k.result in
    let within : c.loop-k.k < length c.args.stretches.now = search rules in
    let r = reading_of c.loop-k.boxes.items c.loop-k.line in
    subst (λ (xs : List Part). length (read_all r xs).line.parts < 4294967296) (sym c.as_slice-in-loop-k.ensures)
    (next_few c.args.frame.now c.args.boxes.now.items c.args.stretches.now c.loop-k.k c.args.count s r c.loop-k.invariant
    (slice_get-get_or c.args.stretches.now c.loop-k.k c.index-stretches-k.result within) c.loop-k-test.true c.requires.few)

pub loop-k-preserved : goal.loop-k-preserved
loop-k-preserved c =
    let s = get_or c.args.stretches.now c.loop-k.k c.index-stretches-k.result in
    let within : c.loop-k.k < length c.args.stretches.now = search rules in
    let r = reading_of c.loop-k.boxes.items c.loop-k.line in
    reading_next c.args.frame.now c.args.boxes.now.items c.args.stretches.now c.loop-k.k s r (reading_of c.read_all.new.boxes.items c.read_all.new.line)
    (c.in_ok-read_all.ensures ∙ ap (λ (xs : List Part). read_all r xs) c.as_slice-in-loop-k.ensures) c.loop-k.invariant
    (slice_get-get_or c.args.stretches.now c.loop-k.k c.index-stretches-k.result within)
