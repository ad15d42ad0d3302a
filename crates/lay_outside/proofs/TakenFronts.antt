-- Bytes that are written piece by piece.
use Rattle.std.proofs.Common.{◌≡◌, ℕ, ◌+◌, ◌≤◌, List, [], ◌++◌, take, drop, sym, ap, ◌∙◌, arith, Option, Some, None, Result, Ok, Err, subst, append_assoc, append-nil}
use Rattle.std.proofs.lemmas.List.{take-take, drop-take, take-append-drop}
use Rattle.std.specs.Io.KnownBytes.{Appends, Keeps, WriteAppends}
use Rattle.std.specs.Io.{WritesAtMost}
use Rattle.lay_outside.specs.Outside.{Took, TookFront}

take-split : (text : List ℕ) (d n : ℕ) → take d text ++ take n (drop d text) ≡ take (d + n) text
take-split text d n =
    let le : d ≤ d + n = omega arith in
    ap (λ (ys : List ℕ). ys ++ take n (drop d text)) (sym (take-take d (d + n) text le)) ∙ ap (λ (ys : List ℕ). take d (take (d + n) text) ++ ys) (sym (drop-take d n text)) ∙ take-append-drop d (take (d + n) text)

pub took_more : (a b c : Option (List ℕ)) (text : List ℕ) (d n : ℕ) → Took a b (take d text) → Took b c (take n (drop d text)) → Took a c (take (d + n) text)
took_more None b c text d n first second = tt
took_more (Some x) b c text d n first second =
    let k : c ≡ Some ((x ++ take d text) ++ take n (drop d text)) = subst (λ (o : Option (List ℕ)). Took o c (take n (drop d text))) first second in
    k ∙ ap Some (append_assoc x (take d text) (take n (drop d text)) ∙ ap (λ (ys : List ℕ). x ++ ys) (take-split text d n))

appended : (a b c : Option (List ℕ)) (piece : List ℕ) → Appends a b piece → Keeps b c → Took a c piece
appended None b c piece grows same = tt
appended (Some xs) None c piece grows same = absurd grows
appended (Some xs) (Some ys) None piece grows same = absurd same
appended (Some xs) (Some ys) (Some zs) piece grows same = ap Some (same ∙ grows)

none_appended : (a b : Option (List ℕ)) → Keeps a b → Appends a b []
none_appended None b same = tt
none_appended (Some xs) None same = absurd same
none_appended (Some xs) (Some ys) same = same ∙ sym (append-nil xs)

-- a front was written, or nothing, and what came behind it wrote nothing
pub front_written : {E : Type 0} (r : Result ℕ E) (a b c : Option (List ℕ)) (piece : List ℕ) → WritesAtMost r piece → WriteAppends a b r piece → Keeps b c
    → TookFront a c piece
front_written (Ok n) a b c piece most wrote same = (n, most, appended a b c (take n piece) wrote same)
front_written (Err e) a b c piece most wrote same = (0, omega arith, appended a b c [] (none_appended a b wrote) same)
