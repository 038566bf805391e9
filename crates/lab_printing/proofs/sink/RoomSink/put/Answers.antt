use Rattle.lab_printing.proofs.Common.{ℕ, ◌++◌, replicate, length, refl, ap, sym, ◌∙◌, replicate-append-replicate}
use Rattle.std.proofs.lemmas.Simd.{splat_is_map}
use Rattle.lab_printing.proofs.sink.RoomSink.put.Goals as goal

pub returns : goal.returns
returns g c =
    sym (replicate-append-replicate c.args.self.now.used (length c.args.bytes.now) 0)
    ∙ ap (λ back. replicate {A = ℕ} c.args.self.now.used 0 ++ back) (splat_is_map c.args.bytes.now (length c.args.bytes.now) 0 refl)
