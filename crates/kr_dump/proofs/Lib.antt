mod DumpExamples
