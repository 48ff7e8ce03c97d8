use Rattle.dn_replay.proofs.Words.{Delivery, Fate, IsUnderWay, Kept, List, Option, [], append-nil, delivery_line, fate_lines, filter, is_other, kept_lines, line_fields, line_of, map, on_err}
use Rattle.dn_replay.proofs.Words.{report_header, sym, text_of, ℕ, ◌++◌, ◌∙◌, ◌∷◌, ◌≡◌}
use Rattle.dn_replay.proofs.PartSteps.{begun, ended, line-added, same-part, whole-text}
use Rattle.dn_replay.proofs.report.write_kept.write_lines.Goals as goal

-- What is written after the header.
module _ (kept : Kept) (fates : List Fate) (given : List Delivery) where
  abbrev outs : List ℕ
  outs = text_of (map line_fields (map (delivery_line kept.accepted.items) given))

  abbrev others : List ℕ
  others = text_of (map line_fields (filter is_other (fate_lines 1 0 given fates)))

  whole : (line_of report_header ++ outs) ++ others ≡ text_of (report_header ∷ map line_fields (kept_lines kept fates given))
  whole = whole-text line_fields report_header (map (delivery_line kept.accepted.items) given) (filter is_other (fate_lines 1 0 given fates))

-- The buffer holds the header alone.
header : (start : Option (List ℕ)) (items : List ℕ) → items ≡ line_of report_header → IsUnderWay start start items (line_of report_header)
header start items is = line-added start start [] items [] (line_of report_header) is (begun start)

pub returns-clause-ok : goal.returns-clause-ok
returns-clause-ok g c = λ fates kept.
    let start = g.O.Outlet.contents c.args.out.now in
    let before = outs c.args.kept.now fates c.args.given.now in
    let behind = others c.args.kept.now fates c.args.given.now in
    let front = c.in_ok-write_outs.ensures.ok start (line_of report_header) (header start c.begin.new.text.items c.begin.ensures.items) in
    let all = c.in_ok-write_others.ensures.ok start (line_of report_header ++ before) c.args.given.now fates kept c.requires.marks front in
    let written = c.in_ok-write_part.ensures.ok start ((line_of report_header ++ before) ++ behind) all in
    rw (sym (whole c.args.kept.now fates c.args.given.now))
    (ended start (g.O.Outlet.contents c.write_part.new.out) c.write_part.new.buffer.items ((line_of report_header ++ before) ++ behind) c.in_ok-write_part.ensures.short written)

pub returns-in_err-write_outs-clause-part : goal.returns-in_err-write_outs-clause-part
returns-in_err-write_outs-clause-part g c = on_err c.from_residual.result (λ fates kept.
    same-part (g.O.Outlet.contents c.args.out.now) (g.O.Outlet.contents c.write_outs.new.out)
    ((line_of report_header ++ outs c.args.kept.now fates c.args.given.now) ++ others c.args.kept.now fates c.args.given.now) _
    (whole c.args.kept.now fates c.args.given.now)
    (c.in_err-write_outs.ensures.part (g.O.Outlet.contents c.args.out.now) (line_of report_header) (others c.args.kept.now fates c.args.given.now)
    (header (g.O.Outlet.contents c.args.out.now) c.begin.new.text.items c.begin.ensures.items)))

pub returns-in_err-write_others-clause-part : goal.returns-in_err-write_others-clause-part
returns-in_err-write_others-clause-part g c = on_err c.from_residual-in_err-write_others.result (λ fates kept.
    let start = g.O.Outlet.contents c.args.out.now in
    let given = c.args.given.now in
    let front = c.in_ok-write_outs.ensures.ok start (line_of report_header) (header start c.begin.new.text.items c.begin.ensures.items) in
    let failed = c.in_err-write_others.ensures.part start (line_of report_header ++ outs c.args.kept.now fates given) given fates kept c.requires.marks front in
    same-part start (g.O.Outlet.contents c.write_others.new.out)
    ((line_of report_header ++ outs c.args.kept.now fates given) ++ others c.args.kept.now fates given) _ (whole c.args.kept.now fates given) failed)

pub returns-in_err-write_part-clause-part : goal.returns-in_err-write_part-clause-part
returns-in_err-write_part-clause-part g c = on_err c.from_residual-in_err-write_part.result (λ fates kept.
    let start = g.O.Outlet.contents c.args.out.now in
    let given = c.args.given.now in
    let text = (line_of report_header ++ outs c.args.kept.now fates given) ++ others c.args.kept.now fates given in
    let front = c.in_ok-write_outs.ensures.ok start (line_of report_header) (header start c.begin.new.text.items c.begin.ensures.items) in
    let all = c.in_ok-write_others.ensures.ok start (line_of report_header ++ outs c.args.kept.now fates given) given fates kept c.requires.marks front in
    let failed = c.in_err-write_part.ensures.part start text [] all in
    same-part start (g.O.Outlet.contents c.write_part.new.out) (text ++ []) _ (append-nil text ∙ whole c.args.kept.now fates given) failed)
