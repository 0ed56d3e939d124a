-- What a run that can't read its script doesn't end with, and whose faults are counted.
use Rattle.std.proofs.Common.{◌≡◌, ◌≢◌, ◌<◌, subst}
use Rattle.rg_run_script.specs.declared.status.Status.{Status}
use Rattle.rg_run_script.specs.declared.status.Status.TheVariants.{Done, Usage, NetFault, ReadFault, WriteFault}
use Rattle.rg_run_script.specs.Ports.{Ports}
use Rattle.rg_run_script.specs.Runs.{IsRun, IsUnread}

pub unread_not_done : (p q : Ports) (status : Status) → IsRun IsUnread p q status → status ≢ Done
unread_not_done p q status run is = let so : IsRun IsUnread p q Done = subst (λ (s : Status). IsRun IsUnread p q s) is run in so.stands

pub unread_not_usage : (p q : Ports) (status : Status) → IsRun IsUnread p q status → status ≢ Usage
unread_not_usage p q status run is = let so : IsRun IsUnread p q Usage = subst (λ (s : Status). IsRun IsUnread p q s) is run in so.stands

pub unread_not_net : (p q : Ports) (status : Status) → IsRun IsUnread p q status → status ≢ NetFault
unread_not_net p q status run is = let so : IsRun IsUnread p q NetFault = subst (λ (s : Status). IsRun IsUnread p q s) is run in so.stands

pub read_fault_counted : (p q : Ports) (status : Status) → IsRun IsUnread p q status → status ≡ ReadFault → p.read_faults < q.read_faults
read_fault_counted p q status run is = let so : IsRun IsUnread p q ReadFault = subst (λ (s : Status). IsRun IsUnread p q s) is run in so.reads

pub write_fault_counted : (p q : Ports) (status : Status) → IsRun IsUnread p q status → status ≡ WriteFault → p.write_faults < q.write_faults
write_fault_counted p q status run is = let so : IsRun IsUnread p q WriteFault = subst (λ (s : Status). IsRun IsUnread p q s) is run in so.writes
