use Rattle.std.proofs.Common.{◌≡◌, ◌∙◌, sym, map, string_bytes}
use Rattle.lay_cli.proofs.Cited.{in_range}
use Rattle.lay_cli.proofs.Completeness.{refuses, reported}
use Rattle.lay_cli.proofs.call.top.Goals as goal

pub asked-requires-clause-range : goal.asked-requires-clause-range
asked-requires-clause-range g c κs within = in_range (map string_bytes c.args.words.now) c.in-Ok-Some.form (sym (c.in-Ok-Some.ensures {u = tt}) ∙ c.in-Ok-Some.field-0-is)

pub returns-in-Ok-Some-clause-complete : goal.returns-in-Ok-Some-clause-complete
returns-in-Ok-Some-clause-complete g c = λ asked have source_quiet sink_quiet.
    let known = sym (c.in-Ok-Some.ensures {u = tt}) ∙ c.in-Ok-Some.field-0-is in
    let both = sym known ∙ have in
    let same : c.in-Ok-Some.form ≡ asked = cc in
    let ends = rw same at c.asked.ensures.ends in
    reported asked (g.S.Source.left c.args.source.now) c.asked.result _ _ c.asked.new.kept ends c.asked.ensures.never_usage (λ r. source_quiet (c.asked.ensures.read_fault r).1) (λ r. sink_quiet (ends.write_fault r).0)

pub returns-in-Ok-Some-clause-refuses : goal.returns-in-Ok-Some-clause-refuses
returns-in-Ok-Some-clause-refuses g c = λ asked have source_quiet sink_quiet.
    let known = sym (c.in-Ok-Some.ensures {u = tt}) ∙ c.in-Ok-Some.field-0-is in
    let both = sym known ∙ have in
    let same : c.in-Ok-Some.form ≡ asked = cc in
    let ends = rw same at c.asked.ensures.ends in
    refuses asked (g.S.Source.left c.args.source.now) c.asked.result _ _ c.asked.new.kept ends c.asked.ensures.never_usage (λ r. source_quiet (c.asked.ensures.read_fault r).1) (λ r. sink_quiet (ends.write_fault r).0)
