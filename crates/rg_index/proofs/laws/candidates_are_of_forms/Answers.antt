use Rattle.rg_index.proofs.Found.{is_of_form}
use Rattle.rg_index.proofs.laws.candidates_are_of_forms.Goals as goal

pub returns : goal.returns
returns c = λ def forms elements id h. is_of_form def forms elements id h
