-- A log has one recording.
use Rattle.lab_engine.proofs.Common.{History, IsRecording, Past, same_rows, sym, Table, ◌∙◌, ◌≡◌}

pub one_recording : (setup : Table) (past : Past) (h k : History) → IsRecording setup past h → IsRecording setup past k → h ≡ k
one_recording setup past h k r s = λ i. record {
  initial = (r.initial ∙ sym s.initial) i;
  txns = (r.txns ∙ sym s.txns) i;
  installed = same_rows h.installed k.installed (λ row. r.installed row ∙ sym (s.installed row)) i;
  end_table = same_rows h.end_table k.end_table (λ row. r.end_table row ∙ sym (s.end_table row)) i;
}
