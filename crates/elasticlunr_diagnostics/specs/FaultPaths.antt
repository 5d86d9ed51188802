-- Where in a value that is no job the fault is.
use Rattle.std.specs.Prelude.{List, [], ◌∷◌}
use Rattle.elasticlunr_job_format.specs.JobKeys.{key_name}
use Rattle.elasticlunr_job_format.specs.declared.fault.DocumentFault.{DocumentFault}
use Rattle.elasticlunr_job_format.specs.declared.fault.DocumentFault.TheVariants as doc
use Rattle.elasticlunr_job_format.specs.declared.fault.Fault.{Fault}
use Rattle.elasticlunr_job_format.specs.declared.fault.Fault.TheVariants.{NotAnObject, UnknownKey}
use Rattle.elasticlunr_job_format.specs.declared.fault.Fault.TheVariants.{Member, Missing}
use Rattle.elasticlunr_job_format.specs.declared.fault.MemberFault.{MemberFault}
use Rattle.elasticlunr_job_format.specs.declared.fault.MemberFault.TheVariants.{Other, Item}
use Rattle.elasticlunr_job_format.specs.declared.fault.MemberFault.TheVariants.{Document}
use Rattle.elasticlunr_json_place.specs.Members.{Move, item, under}

-- from a value that is no document to what is wrong in it
abbrev pub document_fault_path : DocumentFault → List Move
document_fault_path (doc.NotAList _) = []
document_fault_path doc.Empty = []
document_fault_path (doc.Item number _) = item number ∷ []

-- from a member to what is wrong in it
abbrev pub member_fault_path : MemberFault → List Move
member_fault_path (Other _) = []
member_fault_path (Item number _) = item number ∷ []
member_fault_path (Document number fault) = item number ∷ document_fault_path fault

-- from a value that is no job to what has the fault: itself, the member under a key, or an item in
-- that
abbrev pub fault_path : Fault → List Move
fault_path (NotAnObject _) = []
fault_path (UnknownKey key) = under key.now ∷ []
fault_path (Member key fault) = under (key_name key) ∷ member_fault_path fault
fault_path (Missing _) = []
