-- What is told of a success.
use Rattle.std.proofs.Common.{Result, Ok, Err, OnOk}

pub on_ok : {U E P Q : Type 0} (result : Result U E) → (P → Q) → OnOk result P → OnOk result Q
on_ok (Ok u) more h = more h
on_ok (Err e) more h = tt
