-- A box has one hypothetical layout and no other.
use Rattle.std.proofs.Common.{◌≡◌, ℕ, zero, suc, ◌<◌, ◌≤◌, Bool, true, false, List, [], ◌∷◌, length, nat_lt, refl, sym, ◌∙◌, ap, arith, inl, inr, if◌then◌else◌}
use Rattle.std.proofs.lemmas.Bool.{cases_lt}
use Rattle.std.proofs.lemmas.List.{ext_get_or}
use Rattle.lay_flow.specs.Blocks.Children.{flag_at}
use Rattle.lay_flow.specs.Blocks.Laws.{OneHypothetical, SomeHypothetical}
use Rattle.lay_flow.proofs.BlocksLemmas.Tabulated.{tab, tab_length, tab_at}
use Rattle.lay_flow.proofs.BlocksLemmas.BlockLayoutLaws.{one_block_layout_lem, layout_there}

pub one_hypothetical_lem : OneHypothetical
one_hypothetical_lem boxes y without other k tree some is also =
    let clears = ext_get_or false without.runs.clears other.runs.clears (is.is_layout.has_runs.clears_length ∙ sym also.is_layout.has_runs.clears_length) (λ j lt. elim (cases_lt j k) [
      | inl low ↦ is.earlier j low ∙ sym (also.earlier j low)
      | inr high ↦ is.later j high ∙ sym (also.later j high)
    ]) in
    one_block_layout_lem boxes without other tree some (is.extents_are ∙ sym also.extents_are) (is.edges_are ∙ sym also.edges_are) clears is.is_layout also.is_layout

-- the flags before the place k
abbrev cut : List Bool → ℕ → ℕ → Bool
cut flags k j = if nat_lt j k then flag_at flags j else false

cut_low : (flags : List Bool) (k j : ℕ) → j < k → cut flags k j ≡ flag_at flags j
cut_low flags k j lt = let t : nat_lt j k ≡ true = grind (arith, lt) in rw t refl

cut_high : (flags : List Bool) (k j : ℕ) → k ≤ j → cut flags k j ≡ false
cut_high flags k j le = let f : nat_lt j k ≡ false = grind (arith, le) in rw f refl

beyond : (flags : List Bool) (j : ℕ) → length flags ≤ j → flag_at flags j ≡ false
beyond [] j le = refl
beyond (b ∷ flags) zero le = absurd (omega (arith, le))
beyond (b ∷ flags) (suc j) le = beyond flags j (omega (arith, le))

pub some_hypothetical_lem : SomeHypothetical
some_hypothetical_lem boxes y k tree some is =
    let n : ℕ = length boxes in
    let flags = y.runs.clears in
    let there = layout_there boxes y.extents y.clear_edges (tab (cut flags k) n) tree some (tab_length (cut flags k) n) in
    let read : (j : ℕ) → flag_at (there.0).clears j ≡ flag_at (tab (cut flags k) n) j = λ j. ap (λ (fs : List Bool). flag_at fs j) there.2 in
    let l = is.has_runs.clears_length in
    let m = tab_length (cut flags k) n in (
      record { extents = y.extents; clear_edges = y.clear_edges; runs = there.0; places = there.1 },
      record {
        is_layout = there.3;
        extents_are = refl;
        edges_are = refl;
        earlier = λ j lt. read j ∙ elim (cases_lt j n) [
          | inl within ↦ tab_at (cut flags k) false n j within ∙ cut_low flags k j lt
          | inr over ↦ beyond (tab (cut flags k) n) j (omega (arith, over, m)) ∙ sym (beyond flags j (omega (arith, over, l)))
        ];
        later = λ j le. read j ∙ elim (cases_lt j n) [
          | inl within ↦ tab_at (cut flags k) false n j within ∙ cut_high flags k j le
          | inr over ↦ beyond (tab (cut flags k) n) j (omega (arith, over, m))
        ];
      },
    )
