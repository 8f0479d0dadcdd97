use Rattle.std.proofs.Common.{◌≡◌, ◌++◌, map}
use Rattle.std.specs.Prelude.{encode_utf8_all, string_bytes}
use Rattle.toml_explain.specs.Excerpts.{IsDrawn}
use Rattle.toml_explain.specs.Shown.{shown_line, shown_span}
use Rattle.toml_explain.proofs.drawing.Drawing.push_run.Given as goal

-- what is left is shown as the rest
abbrev pub invariant-loop-start : goal.invariant-loop-start
invariant-loop-start l = record {
  drawn : IsDrawn l.initial.self → IsDrawn l.self;
  text : string_bytes l.self.text ++ encode_utf8_all (map (shown_span l.run) l.start-iterator) ≡ string_bytes l.initial.self.text ++ encode_utf8_all (shown_line l.run);
}
