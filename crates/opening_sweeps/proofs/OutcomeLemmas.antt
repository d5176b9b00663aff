-- What holds where a call had memory.
use Rattle.std.proofs.Common.{Result, Ok, Err, OnOk}

pub on_ok : {A E : Type 0} (P Q : Type 0) (r : Result A E) → (P → Q) → OnOk r P → OnOk r Q
on_ok P Q (Ok a) f h = f h
on_ok P Q (Err e) f h = tt
