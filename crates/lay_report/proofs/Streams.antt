-- Texts that are written one after the other.
use Rattle.std.proofs.Common.{◌≡◌, ℕ, ◌+◌, ◌-◌, ◌^◌, ◌≤◌, ◌<◌, Bool, true, false, List, [], ◌∷◌, ◌++◌, length, take, drop, slice_get, get_or, refl, sym, ap, ◌∙◌, arith, nat_lt, Option, Some, None, Result, Ok, Err, subst, append_assoc, append-nil}
use Rattle.std.specs.List.{flat_map}
use Rattle.std.specs.Result.{IsErr, IsErrAnd, OnErr}
use Rattle.std.proofs.lemmas.List.{take-append-drop}
use Rattle.std.proofs.lemmas.Option.{slice_get-get_or}
use Rattle.std.proofs.Math.Seq.{take-append-add}
use Rattle.std.proofs.lemmas.Grind.{common_steps, flat_map-append}
use Rattle.lay_frag.proofs.PieceLemmas.{take_one_more}
use Rattle.lay_outside.specs.Outside.{Rose, Took, TookFront}
use Rattle.lay_report.specs.declared.fault.ReportFault.{ReportFault}
use Rattle.lay_report.specs.Writing.{Stream, Writes, Breaks, Pushes}

took_none : (o : Option (List ℕ)) → Took o o []
took_none None = tt
took_none (Some x) = ap Some (sym (append-nil x))

took_more : (a b c : Option (List ℕ)) (x y : List ℕ) → Took a b x → Took b c y → Took a c (x ++ y)
took_more None b c x y first second = tt
took_more (Some t) b c x y first second =
    let k : c ≡ Some ((t ++ x) ++ y) = subst (λ (o : Option (List ℕ)). Took o c y) first second in
    k ∙ ap Some (append_assoc t x y)

-- a front of a text is one of a longer text
front_longer : (a b : Option (List ℕ)) (x y : List ℕ) → TookFront a b x → TookFront a b (x ++ y)
front_longer a b x y front =
    let le = front.1 in
    let few : front.0 ≤ length (x ++ y) = grind (arith, common_steps) in
    let same : take front.0 x ≡ take front.0 (x ++ y) = grind (arith, common_steps) in
    (front.0, few, subst (Took a b) same front.2)

-- nothing is a front of any text
pub front_none : (a : Option (List ℕ)) (x : List ℕ) → TookFront a a x
front_none a x = (0, omega arith, took_none a)

-- a whole text and a front of what follows
pub front_more : (a b c : Option (List ℕ)) (x y : List ℕ) → Took a b x → TookFront b c y → TookFront a c (x ++ y)
front_more a b c x y took front =
    let le = front.1 in
    let few : length x + front.0 ≤ length (x ++ y) = grind (arith, common_steps) in
    let same : x ++ take front.0 y ≡ take (length x + front.0) (x ++ y) = sym (take-append-add x y front.0) in
    (length x + front.0, few, subst (Took a c) same (took_more a b c x (take front.0 y) took front.2))

-- a text that the buffer holds now
writes_held : (s t : Stream) (text : List ℕ) → t.taken ≡ s.taken → t.held ≡ s.held ++ text → Writes s t text
writes_held s t text taken held = record { gone = []; took = subst (λ (o : Option (List ℕ)). Took s.taken o []) (sym taken) (took_none s.taken); rest = sym held }

rest_of : (s t : Stream) (x y : List ℕ) (first : Writes s t x) → s.held ++ (x ++ y) ≡ first.gone ++ (t.held ++ y)
rest_of s t x y first = sym (append_assoc s.held x y) ∙ (ap (λ (ys : List ℕ). ys ++ y) first.rest ∙ append_assoc first.gone t.held y)

writes_more : (s t u : Stream) (x y : List ℕ) → Writes s t x → Writes t u y → Writes s u (x ++ y)
writes_more s t u x y first second = record {
  gone = first.gone ++ second.gone;
  took = took_more s.taken t.taken u.taken first.gone second.gone first.took second.took;
  rest = rest_of s t x y first ∙ (ap (λ (ys : List ℕ). first.gone ++ ys) second.rest ∙ sym (append_assoc first.gone second.gone u.held));
}

pub by_bool : {P : Type 0} (b : Bool) → (b ≡ true → P) → (b ≡ false → P) → P
by_bool true t f = t refl
by_bool false t f = f refl

rose_later : (a b c : ℕ) → a ≤ b → b ≤ c → Rose b c → Rose a c
rose_later a b c low high rose = λ below. by_bool (nat_lt b (2 ^ 64 - 1))
    (λ e. let under : b < 2 ^ 64 - 1 = grind arith in let more = rose under in omega (arith, low, more))
    (λ e. let over : 2 ^ 64 - 1 ≤ b = grind arith in omega (arith, high, over, below))

breaks_more : (s t u : Stream) (x y : List ℕ) (e : ReportFault) → s.faults ≤ t.faults → t.faults ≤ u.faults → Writes s t x → Breaks t u y e → Breaks s u (x ++ y) e
breaks_more s t u x y e low high first second = record {
  front = subst (TookFront s.taken u.taken) (sym (rest_of s t x y first)) (front_more s.taken t.taken u.taken first.gone (t.held ++ y) first.took second.front);
  rose = λ write. rose_later s.faults t.faults u.faults low high (second.rose write);
}

breaks_longer : (s t : Stream) (x y : List ℕ) (e : ReportFault) → Breaks s t x e → Breaks s t (x ++ y) e
breaks_longer s t x y e first = record {
  front = subst (TookFront s.taken t.taken) (append_assoc s.held x y) (front_longer s.taken t.taken (s.held ++ x) y first.front);
  rose = first.rose;
}

-- nothing is written
pub writes_none : (s : Stream) → Writes s s []
writes_none s = writes_held s s [] refl (sym (append-nil s.held))

-- a text behind one that was written
pub pushes_then : {B : Type 0} (s t u : Stream) (x y : List ℕ) (r : Result B ReportFault) → Writes s t x → s.faults ≤ t.faults → Pushes t u y r → Pushes s u (x ++ y) r
pushes_then s t u x y (Ok w) first low second = record { ok = writes_more s t u x y first second.ok; err = tt; never_falls = omega (arith, low, second.never_falls) }
pushes_then s t u x y (Err e) first low second = record {
  ok = tt;
  err = breaks_more s t u x y e low second.never_falls first second.err;
  never_falls = omega (arith, low, second.never_falls);
}

-- a text that isn't written whole, and so none after it
pub pushes_stop : {A B : Type 0} (s t : Stream) (x y : List ℕ) (e : ReportFault) → Pushes {A = A} s t x (Err e) → Pushes {A = B} s t (x ++ y) (Err e)
pushes_stop s t x y e first = record { ok = tt; err = breaks_longer s t x y e first.err; never_falls = first.never_falls }

-- one of many texts isn't written whole
pub pushes_within : {A B : Type 0} (s t u : Stream) (x y z : List ℕ) (e : ReportFault) → Writes s t x → s.faults ≤ t.faults → Pushes {A = A} t u y (Err e) → Pushes {A = B} s u (x ++ (y ++ z)) (Err e)
pushes_within {A} {B} s t u x y z e first low second = pushes_then s t u x (y ++ z) (Err e) first low (pushes_stop t u y z e second)

-- one of many texts isn't written whole, and that is the result
pub pushes_failed : {A B : Type 0} (s t u : Stream) (x y z : List ℕ) (e : ReportFault) (r : Result B ReportFault) → Writes s t x → s.faults ≤ t.faults → Pushes {A = A} t u y (Err e)
    → IsErr r × IsErrAnd r (λ v. v ≡ e) → Pushes s u (x ++ (y ++ z)) r
pushes_failed {A} {B} s t u x y z e (Ok v) first low second is = absurd (let e : false ≡ true = is.0 in cc)
pushes_failed {A} {B} s t u x y z e (Err v) first low second is =
    subst (λ (w : ReportFault). Pushes {A = B} s u (x ++ (y ++ z)) (Err w)) (sym is.1) (pushes_within {A = A} {B = B} s t u x y z e first low second)

-- the texts of a front of a list and of its next member
pub flat_more : {A : Type 0} (f : A → List ℕ) (xs : List A) (k : ℕ) (x : A) → slice_get xs k ≡ Some x → flat_map f (take (k + 1) xs) ≡ flat_map f (take k xs) ++ f x
flat_more f xs k x is = ap (flat_map f) (take_one_more xs k x is) ∙ (flat_map-append f (take k xs) (x ∷ []) ∙ ap (λ (ys : List ℕ). flat_map f (take k xs) ++ ys) (append-nil (f x)))

-- the texts of a list, round one of its members
pub flat_split : {A : Type 0} (f : A → List ℕ) (xs : List A) (k : ℕ) (x : A) → slice_get xs k ≡ Some x → flat_map f (take k xs) ++ (f x ++ flat_map f (drop (k + 1) xs)) ≡ flat_map f xs
flat_split f xs k x is =
    sym (append_assoc (flat_map f (take k xs)) (f x) (flat_map f (drop (k + 1) xs)))
    ∙ (ap (λ (ys : List ℕ). ys ++ flat_map f (drop (k + 1) xs)) (sym (flat_more f xs k x is))
    ∙ (sym (flat_map-append f (take (k + 1) xs) (drop (k + 1) xs)) ∙ ap (flat_map f) (take-append-drop (k + 1) xs)))

pub writes_same : (s t : Stream) (x y : List ℕ) → x ≡ y → Writes s t x → Writes s t y
writes_same s t x y same writes = subst (Writes s t) same writes

pub pushes_same : {A : Type 0} (s t : Stream) (x y : List ℕ) (r : Result A ReportFault) → x ≡ y → Pushes s t x r → Pushes s t y r
pushes_same {A} s t x y r same pushes = subst (λ (text : List ℕ). Pushes {A = A} s t text r) same pushes

-- of a text that was written, a front of what the buffer still held
pub front_all : (s t : Stream) (o : Option (List ℕ)) (x : List ℕ) → Writes s t x → TookFront t.taken o t.held → TookFront s.taken o (s.held ++ x)
front_all s t o x writes front = subst (TookFront s.taken o) (sym writes.rest) (front_more s.taken t.taken o writes.gone t.held writes.took front)

-- a text was written, and more goes into the buffer
pub writes_on : (s t : Stream) (x y held : List ℕ) → Writes s t x → held ≡ t.held ++ y → Writes s (record t { held = held }) (x ++ y)
writes_on s t x y held writes is = writes_more s t (record t { held = held }) x y writes (writes_held t (record t { held = held }) y refl is)

-- a text was written; then nothing goes on any more
pub front_kept : (s t : Stream) (x y : List ℕ) → Writes s t x → TookFront s.taken t.taken (s.held ++ (x ++ y))
front_kept s t x y writes = subst (TookFront s.taken t.taken) (sym (rest_of s t x y writes)) (front_more s.taken t.taken t.taken writes.gone (t.held ++ y) writes.took (front_none t.taken (t.held ++ y)))

pub at_err : {A : Type 0} (r : Result A ReportFault) (P : Type 0) → P → OnErr r P
at_err (Ok a) P p = tt
at_err (Err e) P p = p

pub err_weaker : {A : Type 0} (r : Result A ReportFault) (P Q : Type 0) → (P → Q) → OnErr r P → OnErr r Q
err_weaker (Ok a) P Q f p = tt
err_weaker (Err e) P Q f p = f p

pub at_both_ends : (x y z : List ℕ) → (x ++ y) ++ z ≡ ((x ++ []) ++ []) ++ (y ++ z)
at_both_ends x y z = append_assoc x y z ∙ ap (λ (ys : List ℕ). ys ++ (y ++ z)) (sym (append-nil (x ++ []) ∙ append-nil x))

pub at_place : {A : Type 0} (xs : List A) (k : ℕ) (x : A) → k < length xs → x ≡ get_or xs k x → slice_get xs k ≡ Some x
at_place xs k x below is = slice_get-get_or xs k x below ∙ ap Some (sym is)
