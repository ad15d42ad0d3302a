-- What holds of what a call answers, case by case.
use Rattle.std.proofs.Common.{◌≡◌, Result, Ok, Err, IfOk, IfErr, Option, Some, None, IfSome, IsTrue, IsFalse, Bool, true, false, subst}

pub not_both : (b : Bool) → IsTrue b → IsFalse b → ⊥
not_both true t f = absurd cc
not_both false t f = absurd cc

pub at_err : {A : Type 0} {E : Type 0} (r : Result A E) (P : Type 0) → P → IfErr r (λ x. P)
at_err (Ok a) P p = tt
at_err (Err e) P p = p

pub at_ok : {A : Type 0} {E : Type 0} (r : Result A E) (P : Type 0) → P → IfOk r (λ x. P)
at_ok (Ok a) P p = p
at_ok (Err e) P p = tt

pub at_some : {A : Type 0} (P : A → Type 0) (o : Option A) (p : A) → o ≡ Some p → IfSome o P → P p
at_some {A} P o p e h = subst (λ (q : Option A). IfSome q P) e h

pub if_some_map : {A : Type 0} (P Q : A → Type 0) (o : Option A) → IfSome o P → ((x : A) → P x → Q x) → IfSome o Q
if_some_map P Q None is then = tt
if_some_map P Q (Some x) is then = then x is

pub if_some_both : {A : Type 0} (P Q R : A → Type 0) (o : Option A) → IfSome o P → IfSome o Q → ((x : A) → P x → Q x → R x) → IfSome o R
if_some_both P Q R None p q then = tt
if_some_both P Q R (Some x) p q then = then x p q
