-- What a ledger keeps of the steps.
use Rattle.std.specs.Prelude.{◌≡◌, ◌-◌, ◌^◌, min}
use Rattle.rg_base.specs.Counts.{Counts, one_compile, one_edit, one_try}
use Rattle.rg_base.specs.declared.steps.Counted.{Counted}
use Rattle.rg_base.specs.declared.steps.StepKind.{StepKind}
use Rattle.rg_base.specs.declared.steps.StepKind.TheVariants.{Compile, Edit, Attempt}

-- one more step of this kind
abbrev pub noted : StepKind → Counts → Counts
noted Compile c = one_compile c
noted Edit c = one_edit c
noted Attempt c = one_try c

-- the three numbers, each standing still at the last u64
pub record IsKept (counts : Counts) (kept : Counted) : Type 0 where
  pub compiles : kept.compiles ≡ min counts.compiles (2 ^ 64 - 1)
  pub edits : kept.edits ≡ min counts.edits (2 ^ 64 - 1)
  pub tries : kept.tries ≡ min counts.tries (2 ^ 64 - 1)
