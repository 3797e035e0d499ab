-- A sequence goes on where its first step is accepted, and is refused where that is.
use Rattle.std.proofs.Common.{◌≡◌, ap}
use Rattle.records.specs.declared.refusals.Refusal.{Refusal}
use Rattle.meaning.specs.LowerState.{Low, Out, Out.ok, Out.no, M}

pub on : {X Y : Type 0} {o : Out X} {x : X} {t : Low} (k : X → M Y) → o ≡ ok x t → (elim o as (λ _. Out Y) [ ok y u ↦ k y u | no e ↦ no e ]) ≡ k x t
on {X} {Y} k h = ap (λ (o : Out X). elim o as (λ _. Out Y) [ ok y u ↦ k y u | no e ↦ no e ]) h

pub off : {X Y : Type 0} {o : Out X} {r : Refusal} (k : X → M Y) → o ≡ no r → (elim o as (λ _. Out Y) [ ok y u ↦ k y u | no e ↦ no e ]) ≡ no r
off {X} {Y} k h = ap (λ (o : Out X). elim o as (λ _. Out Y) [ ok y u ↦ k y u | no e ↦ no e ]) h
