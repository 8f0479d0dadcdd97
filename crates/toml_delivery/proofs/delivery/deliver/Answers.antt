use Rattle.std.proofs.Common.{arith, refl}
use Rattle.toml_delivery.proofs.delivery.deliver.Goals as goal

pub returns-in-Ok : goal.returns-in-Ok
returns-in-Ok g c =
    let given = c.in-Ok.ensures in
    record {
      stop = given.stop;
      files_sent = given.files_sent;
      out_sent = given.out_sent;
      err_told = record { between = c.emit_all.new.err; sent = given.err_sent; silent = λ low. refl; tried = λ far. absurd (omega (arith, given.stops)) };
      good = λ low. refl;
      failed = λ far. absurd (omega (arith, given.stops));
    }

pub returns-in-Err : goal.returns-in-Err
returns-in-Err g c =
    let given = c.in-Err.ensures in
    record {
      stop = given.stop;
      files_sent = given.files_sent;
      out_sent = given.out_sent;
      err_told = record { between = c.emit_all.new.err; sent = given.err_sent; silent = λ low. absurd (omega (arith, given.stops)); tried = λ far. c.tell.ensures.tried };
      good = λ low. absurd (omega (arith, given.stops));
      failed = λ far. c.tell.ensures.status;
    }
