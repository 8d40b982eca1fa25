-- Names of other crates and of the definitions, which many of these proofs use.
pub use Rattle.qmodel.specs.declared.call.Call.{Call}
pub use Rattle.qscript_text.specs.Reading.Forms.{no_values, values_of}
pub use Rattle.qscript_text.specs.Reading.TextLaws.{IsOneLine, IsPassedOver, IsWhole, is_passed_over}
pub use Rattle.qscript_text.specs.Reading.TextLaws.{meaning_one_line_later}
pub use Rattle.qscript_text.specs.Reading.Lines.{is_newline, lines_of}
pub use Rattle.qscript_text.proofs.Words.{without_last_end, without_return, of_lines, is_empty}
pub use Rattle.qscript_text.specs.Reading.Steps.{Fails, ◌>>=◌}
pub use Rattle.qscript_text.specs.Reading.Words.{words_of}
pub use Rattle.qscript_text.specs.declared.fault.LineFault.{LineFault}
pub use Rattle.qscript_text.specs.declared.fault.LineFault.TheVariants.{BadByte, DoubleThread, LongLine, TooManyThreads}
pub use Rattle.qscript_text.specs.declared.fault.LineFault.TheVariants.{UnknownThread, WordCount}
pub use Rattle.qscript_text.specs.declared.reading.line.ScriptLine.{ScriptLine}
pub use Rattle.qtables.specs.declared.member.Member.{Member}
pub use Rattle.std.proofs.Common.{Bool, Err, List, None, Ok, Option, Result, Some, [], add-one, add-suc, add-zero, ap}
pub use Rattle.std.proofs.Common.{append-nil, append_assoc, arith, codes, cond, drop, false, filter, get_or, inl, inr}
pub use Rattle.std.proofs.Common.{length, length-append, length-take, map, nat_le, nat_lt, not, position, refl, rules}
pub use Rattle.std.proofs.Common.{slice_index, suc, sym, take, true, zero, ℕ, ◌*◌, ◌++◌, ◌+◌, ◌-◌, ◌<◌, ◌==◌, ◌^◌, ◌∙◌}
pub use Rattle.std.proofs.Common.{◌∷◌, ◌≡◌, ◌≢◌, ◌≤◌, ◌⊎◌}
pub use Rattle.std.proofs.Math.Seq.{get_or-append_seam, take-append-add, take-append_seam}
pub use Rattle.std.proofs.lemmas.Bool.{cases_Bool, cases_lt, eqb-true, le-ltb, ne_eqb}
pub use Rattle.std.proofs.lemmas.Grind.{common_steps}
pub use Rattle.std.proofs.lemmas.Int.Digits.{digits_more, digits_value_more}
pub use Rattle.std.proofs.lemmas.List.{at_drop_more, drop_all, drop_more, get_or-append-add, get_or-append_right}
pub use Rattle.std.proofs.lemmas.List.{get_or_append_left, length-drop, map-append, take-append-le, take_all, take_more}
pub use Rattle.std.proofs.lemmas.List.Elements.{filter_map-append}
pub use Rattle.std.proofs.lemmas.List.Splits.{length-slice_split, slice_split_at, slice_split_first, slice_split_none}
pub use Rattle.std.proofs.lemmas.List.Sums.{fails_before_first, passes_at_first, prefix_len-le-length, split_at_first}
pub use Rattle.std.specs.List.{All, cons_option, filter_map, list_all, onto_first, position_or_len, slice_split}
pub use Rattle.std.specs.Str.{all_ascii_digits, bytes_eq}
pub use Rattle.std.specs.Str.Parse.{AllDigits, digits_value}
