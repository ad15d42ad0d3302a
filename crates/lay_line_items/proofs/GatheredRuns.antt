-- Whatever goes over the clusters of a text and moves on by the widths of those that are nothing but text comes as far where
-- these are gathered.
use Rattle.std.proofs.Common.{◌≡◌, ◌∙◌, ℕ, ◌+◌, ◌<◌, Bool, true, false, if◌then◌else◌, List, [], ◌∷◌, ◌++◌, Option, None, Some, option_to_list, ℤ, ◌+ℤ◌, refl, sym, ap, subst}
use Rattle.std.specs.Str.{IsCharBoundary}
use Rattle.lay_units.specs.declared.records.ClusterWidth.{ClusterWidth}
use Rattle.lay_space.specs.Tokens.{next_place}
use Rattle.lay_line_items.specs.GatheredWidths.{gathered, gathered_after, joins_cluster, stands_alone, with_cluster}
use Rattle.lay_line_items.proofs.Words.{IsWord, StandInOrder, is_word, joined_words, one_stands}

-- where a word begins that stands before this place, if there is one
abbrev begins_at : Option ClusterWidth → ℕ → ℕ
begins_at None at = at
begins_at (Some v) at = v.place

abbrev IsBefore : List ℕ → Option ClusterWidth → ℕ → Type 0
IsBefore text None to = Unit {0}
IsBefore text (Some v) to = IsWord text v.place to

next_flushed : (text : List ℕ) (before : Option ClusterWidth) (ws : List ClusterWidth) → next_place text (option_to_list before ++ ws) ≡ begins_at before (next_place text ws)
next_flushed text None ws = refl
next_flushed text (Some v) ws = refl

next_by : (text : List ℕ) (before : Option ClusterWidth) (w : ClusterWidth) (ws : List ClusterWidth)
    → next_place text (gathered_after text (Some (with_cluster before w)) ws) ≡ begins_at (Some (with_cluster before w)) (next_place text ws)
    → next_place text (gathered_after text (Some w) ws) ≡ w.place → (alone on : Bool)
    → next_place text (if alone then option_to_list before ++ w ∷ gathered_after text None ws
    else (if on then gathered_after text (Some (with_cluster before w)) ws else option_to_list before ++ gathered_after text (Some w) ws)) ≡ begins_at before w.place
next_by text before w ws grown fresh true on = next_flushed text before (w ∷ gathered_after text None ws)
next_by text None w ws grown fresh false true = grown
next_by text (Some v) w ws grown fresh false true = grown
next_by text before w ws grown fresh false false = next_flushed text before (gathered_after text (Some w) ws) ∙ ap (begins_at before) fresh

next_gathered : (text : List ℕ) (before : Option ClusterWidth) (ws : List ClusterWidth) → next_place text (gathered_after text before ws) ≡ begins_at before (next_place text ws)
next_gathered text None [] = refl
next_gathered text (Some v) [] = refl
next_gathered text before (w ∷ ws) =
    next_by text before w ws (next_gathered text (Some (with_cluster before w)) ws) (next_gathered text (Some w) ws)
    (stands_alone text w.place (next_place text ws)) (joins_cluster before w)

module _ (text : List ℕ) {Pen : Type 0} (step : Pen → ClusterWidth → ℕ → Pen) (forward : Pen → ℤ → Pen)
    (words : (p : Pen) (w : ClusterWidth) (to : ℕ) → IsWord text w.place to → step p w to ≡ forward p w.width.0)
    (sums : (p : Pen) (a b : ℤ) → forward (forward p a) b ≡ forward p (a +ℤ b)) where
  -- over each of these clusters
  abbrev pub run : Pen → List ClusterWidth → Pen
  run p [] = p
  run p (w ∷ ws) = run (step p w (next_place text ws)) ws

  abbrev past : Pen → Option ClusterWidth → Pen
  past p None = p
  past p (Some v) = forward p v.width.0

  run_flushed : (p : Pen) (before : Option ClusterWidth) (ws : List ClusterWidth) → IsBefore text before (next_place text ws)
      → run p (option_to_list before ++ ws) ≡ run (past p before) ws
  run_flushed p None ws is = refl
  run_flushed p (Some v) ws is = ap (λ q. run q ws) (words p v (next_place text ws) is)

  -- a word that a cluster was added to, which stands on a boundary
  grown : (o : Option ClusterWidth) (w : ClusterWidth) (to : ℕ) → IsCharBoundary text w.place → IsBefore text o w.place → IsWord text w.place to → IsBefore text (Some (with_cluster o w)) to
  grown None w to seam be word = word
  grown (Some v) w to seam be word = joined_words text v.place w.place to be word seam

  added : (p : Pen) (o : Option ClusterWidth) (w : ClusterWidth) (to : ℕ) → IsWord text w.place to → past p (Some (with_cluster o w)) ≡ step (past p o) w to
  added p None w to word = sym (words p w to word)
  added p (Some v) w to word = sym (sums p v.width.0 w.width.0) ∙ sym (words (forward p v.width.0) w to word)

  run_by : (p : Pen) (before : Option ClusterWidth) (w : ClusterWidth) (ws : List ClusterWidth) → IsBefore text before w.place → w.place < next_place text ws → IsCharBoundary text w.place
      → ((q : Pen) (o : Option ClusterWidth) → IsBefore text o (next_place text ws) → run q (gathered_after text o ws) ≡ run (past q o) ws)
      → (alone : Bool) → stands_alone text w.place (next_place text ws) ≡ alone → (on : Bool)
      → run p (if alone then option_to_list before ++ w ∷ gathered_after text None ws
      else (if on then gathered_after text (Some (with_cluster before w)) ws else option_to_list before ++ gathered_after text (Some w) ws))
      ≡ run (step (past p before) w (next_place text ws)) ws
  run_by p before w ws is some seam rest true e on =
      run_flushed p before (w ∷ gathered_after text None ws) is
      ∙ ap (λ n. run (step (past p before) w n) (gathered_after text None ws)) (next_gathered text None ws)
      ∙ rest (step (past p before) w (next_place text ws)) None tt
  run_by p before w ws is some seam rest false e true =
      let word = is_word text w.place (next_place text ws) some e in
      rest p (Some (with_cluster before w)) (grown before w (next_place text ws) seam is word) ∙ ap (λ q. run q ws) (added p before w (next_place text ws) word)
  run_by p before w ws is some seam rest false e false =
      let word = is_word text w.place (next_place text ws) some e in
      run_flushed p before (gathered_after text (Some w) ws) (subst (IsBefore text before) (sym (next_gathered text (Some w) ws)) is)
      ∙ rest (past p before) (Some w) word
      ∙ ap (λ q. run q ws) (sym (words (past p before) w (next_place text ws) word))

  run_gathered : (p : Pen) (before : Option ClusterWidth) (ws : List ClusterWidth) → IsBefore text before (next_place text ws) → StandInOrder text ws
      → run p (gathered_after text before ws) ≡ run (past p before) ws
  run_gathered p None [] is stand = refl
  run_gathered p (Some v) [] is stand = run_flushed p (Some v) [] is
  run_gathered p before (w ∷ ws) is (one_stands _ _ some seam more) =
      run_by p before w ws is some seam (λ q o b. run_gathered q o ws b more) (stands_alone text w.place (next_place text ws)) refl (joins_cluster before w)

  pub gathered_is_as_far : (p : Pen) (ws : List ClusterWidth) → StandInOrder text ws → run p (gathered text ws) ≡ run p ws
  gathered_is_as_far p ws stand = run_gathered p None ws tt stand
