use Rattle.std.proofs.Common.{◌≡◌, ℕ, ◌+◌, subst, arith}
use Rattle.lay_table_grid.specs.MeetingBorders.{meeting_above}
use Rattle.lay_table_grid.specs.TableBorders.{IsEdgeWidth, IsWidest}
use Rattle.lay_table_grid.proofs.WidestEdges.{widest_more, widest_one}
use Rattle.lay_table_grid.proofs.widest.widest_above.Goals as goal

pub loop-k-init : goal.loop-k-init
loop-k-init c =
    let first : c.args.first ≡ c.args.first + 0 = omega arith in
    record {
      widest = widest_one (λ k. meeting_above c.args.edges.now c.args.row (c.args.first + k)) c.in_ok-widest.widest.0
          (subst (λ (n : ℕ). IsEdgeWidth (meeting_above c.args.edges.now c.args.row n) c.in_ok-widest.widest.0) first c.in_ok-widest.ensures.width);
      size = c.in_ok-widest.ensures.size;
    }

pub loop-k-preserved : goal.loop-k-preserved
loop-k-preserved c =
    let w = c.wider-widest.ensures in
    record {
      widest = widest_more (λ k. meeting_above c.args.edges.now c.args.row (c.args.first + k)) c.loop-k.k c.loop-k.widest c.wider-widest.result c.in_ok-width.width
          c.loop-k.invariant.widest c.in_ok-width.ensures.width w.one_of w.first w.second;
      size = w.size c.loop-k.invariant.size c.in_ok-width.ensures.size;
    }

pub returns-clause-widest : goal.returns-clause-widest
returns-clause-widest c =
    let all : c.loop-k.k ≡ c.args.count = omega arith in
    subst (λ (n : ℕ). IsWidest (λ k. meeting_above c.args.edges.now c.args.row (c.args.first + k)) n c.loop-k.widest.0) all c.loop-k.invariant.widest
