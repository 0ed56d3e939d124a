use Rattle.rg_cmd.specs.declared.download.TagPart.TheVariants.{Unchanged}
use Rattle.rg_download_wire.specs.Reading.{tag_part_reading}
use Rattle.rg_remote.proofs.Telling.{tags_spelled, told_part, told_unchanged, untold, untold_body}
use Rattle.rg_remote.proofs.remote.Remote.tags.Goals as goal

pub returns-in-Ok-None-clause-told : goal.returns-in-Ok-None-clause-told
returns-in-Ok-None-clause-told g c =
    told_unchanged (λ s. s.items) Unchanged tag_part_reading _ _ c.args.self.now c.args.from c.fetch.new.self
    c.in-Ok-None.field-0 tags_spelled c.in-Ok-None.field-0-is c.in-Ok-None.ensures.given

pub returns-in-Ok-clause-told : goal.returns-in-Ok-clause-told
returns-in-Ok-clause-told g c =
    told_part (λ s. s.items) Unchanged tag_part_reading _ _ c.args.self.now c.args.from c.fetch.new.self
    c.in-Ok-Some.field-0 c.in-Ok-Some.body c.as_slice.result.now c.in-Ok.part tags_spelled c.in-Ok-Some.field-0-is c.as_slice.ensures c.in-Ok.ensures c.in-Ok-Some.ensures.given

pub returns-in-Ok-Some-clause-untold : goal.returns-in-Ok-Some-clause-untold
returns-in-Ok-Some-clause-untold g c =
    untold_body (λ s. s.items) Unchanged tag_part_reading _ _ c.args.self.now c.args.from c.fetch.new.self
    c.in-Ok-Some.field-0 c.in-Ok-Some.body c.as_slice.result.now c.in-Err-read_tag_part.fault tags_spelled c.in-Ok-Some.field-0-is c.as_slice.ensures c.in-Err-read_tag_part.ensures c.in-Ok-Some.ensures.given

pub returns-clause-untold : goal.returns-clause-untold
returns-clause-untold g c =
    untold tag_part_reading _ _ c.args.self.now c.args.from c.fetch.new.self c.in-Err.fault tags_spelled c.in-Err.ensures.unanswered
