-- What a run leaves under the logger and the workload that its open asks for.
use Rattle.std.proofs.Common.{◌≡◌, ℕ, suc, List, length, Ok, Err, Result, refl}
use Rattle.workload.specs.Ledger.{ledger}
use Rattle.workload.specs.Spacing.{spacing}
use Rattle.loggers.specs.contracts.pessimistic.PessimisticLogger.TheImpl as pessimistic
use Rattle.loggers.specs.contracts.family_based.FamilyBasedLogger.TheImpl as family
use Rattle.loggers.specs.Pessimistic as pessimistic_views
use Rattle.loggers.specs.FamilyViews as family_views
use Rattle.script.specs.Exact.{pessimistic_logging, family_based_logging}
use Rattle.format.specs.declared.command.Opening.{Opening}
use Rattle.format.specs.declared.command.LoggerChoice.{LoggerChoice}
use Rattle.format.specs.declared.command.LoggerChoice.TheVariants.{Pessimistic, FamilyBased}
use Rattle.format.specs.declared.command.WorkloadChoice.{WorkloadChoice}
use Rattle.format.specs.declared.command.WorkloadChoice.TheVariants.{Ledger, Spacing}
use Rattle.format.specs.declared.fault.ReadFault.{ReadFault}
use Rattle.script.specs.Choice.{RunsChosen, RunsRead}
use Rattle.script.specs.Run.{Left, chosen, if_read, first_read, whole_within, whole}
use Rattle.script.proofs.Exactly.{FollowsRules, runs_left}

pessimistic_exact : FollowsRules pessimistic.ghosts pessimistic_logging pessimistic_views.state
pessimistic_exact = record { starts = λ n f l l' e. e; does = λ op l l' e. e; finds = λ l. refl }

family_exact : FollowsRules family.ghosts family_based_logging family_views.state
family_exact = record { starts = λ n f l l' e. e; does = λ op l l' e. e; finds = λ l. refl }

chosen_left : (l : LoggerChoice) (w : WorkloadChoice) (n f : ℕ) (s xs : List ℕ) (p : Left) → RunsChosen l w n f s xs p → p ≡ chosen l w (suc (length s)) n f s xs
chosen_left Pessimistic Ledger = runs_left pessimistic.ghosts pessimistic_logging pessimistic_views.state pessimistic_exact ledger
chosen_left Pessimistic Spacing = runs_left pessimistic.ghosts pessimistic_logging pessimistic_views.state pessimistic_exact spacing
chosen_left FamilyBased Ledger = runs_left family.ghosts family_based_logging family_views.state family_exact ledger
chosen_left FamilyBased Spacing = runs_left family.ghosts family_based_logging family_views.state family_exact spacing

-- what is left, by what is read first
pub read_left : (s xs : List ℕ) (p : Left) → RunsRead (first_read s xs) s xs p → p ≡ whole s xs
unfolding whole_within
read_left s xs p R = go (first_read s xs) R
  where
    go : (r : Result Opening ReadFault) → RunsRead r s xs p → p ≡ if_read r (suc (length s)) s xs
    go (Ok x) R = chosen_left x.logger x.workload x.n x.f s xs p R
    go (Err x) R = R
