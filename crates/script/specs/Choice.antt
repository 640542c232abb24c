-- The course of a run under the logger and the workload that its open asks for.
use Rattle.std.specs.Prelude.{◌≡◌, ℕ, List, Ok, Err, Result}
use Rattle.workload.specs.Ledger.{ledger}
use Rattle.workload.specs.Spacing.{spacing}
use Rattle.loggers.specs.contracts.pessimistic.PessimisticLogger.TheImpl as pessimistic
use Rattle.loggers.specs.contracts.family_based.FamilyBasedLogger.TheImpl as family
use Rattle.format.specs.declared.command.Opening.{Opening}
use Rattle.format.specs.declared.command.LoggerChoice.{LoggerChoice}
use Rattle.format.specs.declared.command.LoggerChoice.TheVariants.{Pessimistic, FamilyBased}
use Rattle.format.specs.declared.command.WorkloadChoice.{WorkloadChoice}
use Rattle.format.specs.declared.command.WorkloadChoice.TheVariants.{Ledger, Spacing}
use Rattle.format.specs.declared.fault.ReadFault.{ReadFault}
use Rattle.format.specs.declared.fault.RunFault.{RunFault}
use Rattle.script.specs.Course.{Runs}
use Rattle.script.specs.Run.{Left, stops}

abbrev pub RunsChosen : LoggerChoice → WorkloadChoice → ℕ → ℕ → List ℕ → List ℕ → Left → Type 0
RunsChosen Pessimistic Ledger = Runs pessimistic.ghosts ledger
RunsChosen Pessimistic Spacing = Runs pessimistic.ghosts spacing
RunsChosen FamilyBased Ledger = Runs family.ghosts ledger
RunsChosen FamilyBased Spacing = Runs family.ghosts spacing

-- The calls of a run whose open is read carry the recovery guarantee; else it makes none.
abbrev pub RunsRead : Result Opening ReadFault → List ℕ → List ℕ → Left → Type 0
RunsRead (Ok o) s xs p = RunsChosen o.logger o.workload o.n o.f s xs p
RunsRead (Err e) s xs p = p ≡ stops xs 0 (RunFault.Reader e) 1 0
