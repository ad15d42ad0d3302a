-- Edits in batches: full ones, and the one with what is left, are the batches of all.
use Rattle.std.proofs.Common.{◌≡◌, ℕ, zero, suc, ◌+◌, ◌*◌, ◌/◌, ◌<◌, ◌≤◌, cond, List, [], ◌∷◌, ◌++◌, length, map, take, drop, Option, Some, None, IfSome, refl, sym, ap, ◌∙◌, arith, All, append_assoc, append-nil, length-append}
use Rattle.std.specs.List.{flat_map, range_with_len}
use Rattle.std.proofs.Math.Nat.{add-div_left}
use Rattle.std.proofs.Math.Seq.{take-append_seam, drop-append-add}
use Rattle.std.proofs.lemmas.Nat.{div-add-mod', div-mul-add}
use Rattle.std.proofs.lemmas.List.{take_all}
use Rattle.std.proofs.lemmas.List.Elements.{All-push}
use Rattle.std.proofs.lemmas.List.Concat.{flat_map-append}
use Rattle.std.proofs.lemmas.List.FromFn.{length-map-range_with_len}
use Rattle.std.proofs.lemmas.List.Sums.{sum_by-append}
use Rattle.lay_doc.specs.declared.edit.Edit.{Edit}
use Rattle.lay_history.specs.declared.edits.command.Cmd.{Cmd}
use Rattle.lay_history.specs.declared.edits.command.Cmd.TheVariants.{Edits, Latest, Sync}
use Rattle.lay_run.specs.Scripts.{is_read, reads_of}
use Rattle.lay_generator.specs.Commands.{batch_at, batches}
use Rattle.lay_generator.specs.Batches.{IsBegun, IsFull, IsInBatches, edits_in, edits_of, last_edits}

-- the batches from a place on, so many
abbrev batches_from : List Edit → ℕ → ℕ → List Cmd
batches_from edits place count = map (λ k. Edits (batch_at edits k)) (range_with_len place count)

batch_front : (xs ys : List Edit) → length xs ≡ 64 → batch_at (xs ++ ys) 0 ≡ xs
batch_front xs ys whole =
    let none : 64 * 0 ≡ 0 = omega arith in
    ap (λ (n : ℕ). take 64 (drop n (xs ++ ys))) none ∙ (ap (λ (n : ℕ). take n (xs ++ ys)) (sym whole) ∙ take-append_seam xs ys)

batch_behind : (xs ys : List Edit) (k : ℕ) → length xs ≡ 64 → batch_at (xs ++ ys) (suc k) ≡ batch_at ys k
batch_behind xs ys k whole =
    let place : 64 * suc k ≡ length xs + 64 * k = omega (arith, whole) in
    ap (λ (n : ℕ). take 64 (drop n (xs ++ ys))) place ∙ ap (take 64) (drop-append-add xs ys (64 * k))

behind_first : (xs ys : List Edit) (place count : ℕ) → length xs ≡ 64 → batches_from (xs ++ ys) (suc place) count ≡ batches_from ys place count
behind_first xs ys place zero whole = refl
behind_first xs ys place (suc count) whole =
    let later : suc place + 1 ≡ suc (place + 1) = omega arith in
    ap (λ (b : List Edit). Edits b ∷ batches_from (xs ++ ys) (suc place + 1) count) (batch_behind xs ys place whole)
    ∙ (ap (λ (n : ℕ). Edits (batch_at ys place) ∷ batches_from (xs ++ ys) n count) later
    ∙ ap (λ (cs : List Cmd). Edits (batch_at ys place) ∷ cs) (behind_first xs ys (place + 1) count whole))

one_batch_more : (xs ys : List Edit) → length xs ≡ 64 → (length (xs ++ ys) + 63) / 64 ≡ suc ((length ys + 63) / 64)
one_batch_more xs ys whole =
    let sum : length (xs ++ ys) + 63 ≡ 64 + (length ys + 63) = (let l = length-append xs ys in omega (arith, l, whole)) in
    let more : (64 + (length ys + 63)) / 64 ≡ (length ys + 63) / 64 + 1 = add-div_left (length ys + 63) (omega arith) in
    let next : (length ys + 63) / 64 + 1 ≡ suc ((length ys + 63) / 64) = omega arith in
    ap (λ (n : ℕ). n / 64) sum ∙ (more ∙ next)

-- a full batch before others
full_first : (xs ys : List Edit) → length xs ≡ 64 → batches (xs ++ ys) ≡ Edits xs ∷ batches ys
full_first xs ys whole =
    ap (batches_from (xs ++ ys) 0) (one_batch_more xs ys whole)
    ∙ (ap (λ (b : List Edit). Edits b ∷ batches_from (xs ++ ys) 1 ((length ys + 63) / 64)) (batch_front xs ys whole)
    ∙ ap (λ (cs : List Cmd). Edits xs ∷ cs) (behind_first xs ys 0 ((length ys + 63) / 64) whole))

no_batch : batches [] ≡ []
no_batch = ap (batches_from [] 0) (div-mul-add 0 64 63 (omega arith))

-- what is left is one batch
last_batch : (edits : List Edit) → IsBegun edits → batches edits ≡ Edits edits ∷ []
last_batch [] is = absurd (let some = is.0 in omega (arith, some))
last_batch (e ∷ es) is =
    let few = is.1 in
    let sum : length (e ∷ es) + 63 ≡ 1 * 64 + length es = omega arith in
    let one : (length (e ∷ es) + 63) / 64 ≡ 1 = ap (λ (n : ℕ). n / 64) sum ∙ div-mul-add 1 64 (length es) (omega (arith, few)) in
    let none : 64 * 0 ≡ 0 = omega arith in
    ap (batches_from (e ∷ es) 0) one
    ∙ ap (λ (b : List Edit). Edits b ∷ []) (ap (λ (n : ℕ). take 64 (drop n (e ∷ es))) none ∙ take_all 64 (e ∷ es) (omega (arith, few)))

abbrev pub last_command : Option (List Edit) → List Cmd
last_command None = []
last_command (Some edits) = Edits edits ∷ []

last_batches : (last : Option (List Edit)) → IfSome last IsBegun → batches (last_edits last) ≡ last_command last
last_batches None is = no_batch
last_batches (Some edits) is = last_batch edits is

pub all_batches : (full : List Cmd) (last : Option (List Edit)) → IsInBatches full last → batches (edits_of full last) ≡ full ++ last_command last
all_batches [] last is = last_batches last is.last_is
all_batches (Edits xs ∷ full) last is =
    ap batches (append_assoc xs (flat_map edits_in full) (last_edits last))
    ∙ (full_first xs (edits_of full last) (is.full_are 0 (Edits xs) (omega arith))
    ∙ ap (λ (cs : List Cmd). Edits xs ∷ cs) (all_batches full last (record { full_are = λ k d lt. is.full_are (suc k) d (omega (arith, lt)); last_is = is.last_is })))
all_batches (Latest ∷ full) last is = absurd (is.full_are 0 Latest (omega arith))
all_batches (Sync ∷ full) last is = absurd (is.full_are 0 Sync (omega arith))

-- one more edit: in a new batch, in the last one, or as the last of a full one

pub begins : (full : List Cmd) (e : Edit) → edits_of full (Some (e ∷ [])) ≡ edits_of full None ++ e ∷ []
begins full e = ap (λ (es : List Edit). es ++ e ∷ []) (sym (append-nil (flat_map edits_in full)))

pub goes_on : (full : List Cmd) (edits : List Edit) (e : Edit) → edits_of full (Some (edits ++ e ∷ [])) ≡ edits_of full (Some edits) ++ e ∷ []
goes_on full edits e = sym (append_assoc (flat_map edits_in full) edits (e ∷ []))

pub fills : (full : List Cmd) (edits : List Edit) (e : Edit) → edits_of (full ++ Edits (edits ++ e ∷ []) ∷ []) None ≡ edits_of full (Some edits) ++ e ∷ []
fills full edits e =
    append-nil (flat_map edits_in (full ++ Edits (edits ++ e ∷ []) ∷ []))
    ∙ (flat_map-append edits_in full (Edits (edits ++ e ∷ []) ∷ [])
    ∙ (ap (λ (es : List Edit). flat_map edits_in full ++ es) (append-nil (edits ++ e ∷ [])) ∙ goes_on full edits e))

pub is_filled : (full : List Cmd) (edits : List Edit) (e : Edit) → All IsFull full → IsBegun edits → (length (edits ++ e ∷ []) < 64 → ⊥) → All IsFull (full ++ Edits (edits ++ e ∷ []) ∷ [])
is_filled full edits e all begun over =
    All-push IsFull full (Edits (edits ++ e ∷ [])) all (filled (length (edits ++ e ∷ [])) (length-append edits (e ∷ [])) over)
  where
    filled : (n : ℕ) → n ≡ length edits + 1 → (n < 64 → ⊥) → n ≡ 64
    filled n is not_less = let few = begun.1 in omega (arith, is, few, not_less)

-- how many batches there are, and none of them reads

pub few_batches : (edits : List Edit) → length edits ≤ 1000 → length (batches edits) ≤ 1000
few_batches edits few =
    let count : length (batches edits) ≡ (length edits + 63) / 64 = length-map-range_with_len (λ k. Edits (batch_at edits k)) 0 ((length edits + 63) / 64) in
    let parts = div-add-mod' (length edits + 63) 64 in
    omega (arith, count, parts, few)

none_reads : (edits : List Edit) (place count : ℕ) → reads_of (batches_from edits place count) ≡ 0
none_reads edits place zero = refl
none_reads edits place (suc count) = none_reads edits (place + 1) count

pub one_reads : (edits : List Edit) → reads_of (batches edits ++ Sync ∷ []) ≡ 1
one_reads edits =
    sum_by-append (λ (y : Cmd). cond (is_read y) 1 0) (batches edits) (Sync ∷ [])
    ∙ ap (λ (n : ℕ). n + 1) (none_reads edits 0 ((length edits + 63) / 64))
