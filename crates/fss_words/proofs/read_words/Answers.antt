use Rattle.std.proofs.Common.{◌≡◌, subst, sym, map, Some, None, IfOk, IfErr, Option}
use Rattle.std.specs.String.{string_bytes}
use Rattle.clap.specs.Words.{found_of, rows_of}
use Rattle.fss_words.specs.declared.wanted.Wanted.{Wanted}
use Rattle.fss_words.specs.declared.fault.WordsFault.TheVariants.{Usage}
use Rattle.fss_words.proofs.Taken.{entered_is, refused}
use Rattle.fss_words.proofs.read_words.Goals as goal

pub returns-in-Some : goal.returns-in-Some
returns-in-Some c =
    let words = map string_bytes c.args.words.now in
    let is = entered_is c.in-Ok.matches words c.in-Some.name.now (rows_of
    (found_of c.in-Some.inner.now)) c.in-Ok.ensures.ok c.in-Some.ensures.name c.in-Some.ensures.rows in
    record {
      ok = subst (λ (o : Option Wanted). IfOk c.entered.result (λ w. o ≡ Some w)) (sym is) c.entered.ensures.ok;
      err = subst (λ (o : Option Wanted). IfErr c.entered.result (λ e. e ≡ Usage → o ≡ None)) (sym is) c.entered.ensures.err;
    }

pub returns-clause-err : goal.returns-clause-err
returns-clause-err c = λ usage. refused (map string_bytes c.args.words.now) c.in-Err.ensures.err (c.fault_of.ensures usage)
