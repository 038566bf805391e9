use Rattle.lab_parts.proofs.LeadingForward.{leads_forward, within_leads}
use Rattle.lab_parts.proofs.laws.dependencies_lead_forward.Goals as goal

pub returns-clause-forward : goal.returns-clause-forward
returns-clause-forward c = leads_forward

pub returns-clause-kept : goal.returns-clause-kept
returns-clause-kept c = within_leads
