use Rattle.std.proofs.Common.{arith, length, rules, subst, sym}
use Rattle.toml_delivery.specs.Delivery.{AreSent, IsSent, IsWhole}
use Rattle.toml_delivery.proofs.Delivered.{given, none_sent, one_part, sent_on}
use Rattle.toml_delivery.proofs.delivery.emit_all.Goals as goal

pub returns-in_err-emit : goal.returns-in_err-emit
returns-in_err-emit g c =
    let files = c.in_ok-emit_files.ensures in
    let sent = subst (λ texts. AreSent g.F.Write.contents files.0 c.args.files.now c.emit_files.new.files texts) c.deref.ensures.value files.1 in
    record {
      stop = length c.args.files.now;
      files_sent = sent_on g.F.Write.contents c.args.files.now _ _ files.0 _ files.2 (omega arith) sent;
      out_sent = subst (λ bytes. IsSent g.O.Write.contents (length c.args.files.now) (length c.args.files.now) c.args.out.now c.emit.new.writer bytes) c.deref-2.ensures.value
          (one_part g.O.Write.contents _ _ _ _
          (record { written = c.in_err-emit.field-0.0.written; fewer = c.in_err-emit.ensures.fewer; accepted = c.in_err-emit.ensures.bytes; count = c.in_err-emit.ensures.count }));
      err_sent = none_sent g.E.Write.contents _ _ _ _ (omega arith);
      stops = search rules;
    }

pub returns : goal.returns
returns g c =
    let files = c.in_ok-emit_files.ensures in
    let sent = subst (λ texts. AreSent g.F.Write.contents files.0 c.args.files.now c.emit_files.new.files texts) c.deref.ensures.value files.1 in
    given g.F.Write.contents g.O.Write.contents g.E.Write.contents c.args.files.now _ c.args.out.now _ c.args.err.now _ c.args.outcome.now c.emit-2.result files.0 files.2 sent
    (subst (λ bytes. IsWhole g.O.Write.contents c.args.out.now c.emit.new.writer bytes) c.deref-2.ensures.value
    (record { accepted = c.in_ok-emit.ensures.bytes; count = c.in_ok-emit.ensures.count })) (rw (sym c.deref-3.ensures.value) c.emit-2.ensures.bytes) (rw (sym c.deref-3.ensures.value) c.emit-2.ensures.fewer) c.emit-2.ensures.count
