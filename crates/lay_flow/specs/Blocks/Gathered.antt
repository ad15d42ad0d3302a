-- Which margins are in the run that comes to a place of the sequence of margins. The boxes with their top margins in it are
-- those from some place on. None of them but the first has clearance, nothing parts their tops, and those that
-- were closed are collapsed through.
use Rattle.std.specs.Prelude.{ℕ, ◌≡◌, ◌<◌, ◌≤◌, ◌==◌, ◌&&◌, not, nat_lt, true, false, List, length}
use Rattle.lay_flow.specs.declared.blocks.flow_box.FlowBox.{FlowBox}
use Rattle.lay_flow.specs.Blocks.Boxes.{parent_at}
use Rattle.lay_flow.specs.Blocks.Children.{flag_at}
use Rattle.lay_flow.specs.Blocks.MarginPlace.{IsAround, MarginPlace}
use Rattle.lay_flow.specs.Blocks.MarginRuns.{Runs, has_top, is_barred, run_at, parts_tops, run_before, run_across}

-- the run that comes to a place has the top margins of the boxes from `first` on that are opened there
pub record Gathered (boxes : List FlowBox) (r : Runs) (first : ℕ) (at : MarginPlace) : Type 0 where
  pub parent : at.inner < at.next
  pub within : at.next ≤ length boxes
  pub inside : IsAround boxes at.inner at.next
  pub least : 0 < first
  pub most : first ≤ at.next
  pub own : (j : ℕ) → first ≤ j → j < at.next → has_top j (run_before boxes r at.inner at.next) ≡ true
  pub older : (j : ℕ) → j < first → has_top j (run_before boxes r at.inner at.next) ≡ false
  pub barred : (q : ℕ)
      → is_barred boxes q (run_before boxes r at.inner at.next)
      ≡ (nat_lt first at.next && flag_at r.clears first && parent_at boxes first == q)
  -- before the top margin of one of them are those of the ones before it
  pub leads : (i j : ℕ) → first ≤ j → j < at.next → i < j → has_top i (run_at r.before_tops j) ≡ not (nat_lt i first)
  pub unparted : (j : ℕ) → first ≤ j → j < at.next → parts_tops boxes j ≡ false
  pub unclear : (j : ℕ) → first < j → j < at.next → flag_at r.clears j ≡ false
  pub closed : (j : ℕ) → first ≤ j → at.inner < j → j < at.next → flag_at r.through j ≡ true
  pub gone : (j i : ℕ) → first ≤ j → j < i → i < at.next → parent_at boxes i < j → flag_at r.through j ≡ true
  -- the whole run of an open one goes on across the place
  pub rise : (j : ℕ) → first ≤ j → j ≤ at.inner → IsAround boxes j at.next → run_at r.top_runs j ≡ run_across boxes r at.inner at.next
